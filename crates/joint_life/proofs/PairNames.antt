-- The names of pairs: good ones, and no two pairs have the same.
use Rattle.std.proofs.Common.{◌≡◌, ℕ, ◌+◌, ◌-◌, ◌*◌, ◌/◌, ◌%◌, ◌<◌, List, [], ◌∷◌, arith, refl, ap, sym, ◌∙◌}
use Rattle.std.specs.Prelude.{Bool, true, ◌==◌, if◌then◌else◌}
use Rattle.std.specs.Fmt.{digits}
use Rattle.std.proofs.lemmas.Bool.{agree_below, agree_below_at, eqb-true}
use Rattle.std.proofs.lemmas.Nat.{div-mul-add, mod-mul-add}
use Rattle.model_specs.specs.Names.{IsGoodName}
use Rattle.product_file.specs.HeadRules.{is_good_name}
use Rattle.product_file.proofs.Heads.{name_is_good}
use Rattle.joint_life.specs.JointRecord.{pair_name}

-- what a test says of each pair of indices below 12 it says of any
at_pair : (test : ℕ → ℕ → Bool) (i j : ℕ) → agree_below (λ k. test (k / 12) (k % 12)) (λ k. true) 144 ≡ true
    → i < 12 → j < 12 → test i j ≡ true
at_pair test i j all first second =
    let at : test ((i * 12 + j) / 12) ((i * 12 + j) % 12) ≡ true =
    agree_below_at (λ k. test (k / 12) (k % 12)) (λ k. true) 144 (i * 12 + j) all (omega (arith, first, second)) in
    sym (ap (λ x. test x ((i * 12 + j) % 12)) (div-mul-add i 12 j second)
    ∙ ap (test i) (mod-mul-add i 12 j second)) ∙ at

pub pair_name_is_good : (i j : ℕ) → i < 12 → j < 12 → IsGoodName 24 (pair_name i j)
unfolding digits
pair_name_is_good i j first second =
    name_is_good 24 (pair_name i j) (at_pair (λ x y. is_good_name 24 (pair_name x y)) i j refl first second)

-- the numbers that digits say, before the point and after it
numbers_of : (sofar : ℕ) → List ℕ → ℕ
numbers_of sofar [] = sofar
numbers_of sofar (b ∷ bytes) =
    if b == 46 then 100 * sofar + numbers_of 0 bytes else numbers_of (10 * sofar + (b - 48)) bytes

numbers_are : (i j : ℕ) → i < 12 → j < 12 → numbers_of 0 (pair_name i j) ≡ 100 * i + j
unfolding numbers_of digits
numbers_are i j first second = eqb-true _ _
    (at_pair (λ x y. numbers_of 0 (pair_name x y) == 100 * x + y) i j refl first second)

pub pair_by_name : (i j k l : ℕ) → i < 12 → j < 12 → k < 12 → l < 12 → pair_name i j ≡ pair_name k l
    → (i ≡ k) × (j ≡ l)
pair_by_name i j k l hi hj hk hl same =
    let numbers : 100 * i + j ≡ 100 * k + l =
    sym (numbers_are i j hi hj) ∙ ap (numbers_of 0) same ∙ numbers_are k l hk hl in
    (omega (arith, numbers, hi, hj, hk, hl), omega (arith, numbers, hi, hj, hk, hl))
