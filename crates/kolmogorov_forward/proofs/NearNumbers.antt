-- Whole numbers in units of 2^-64 near a vector, their sizes added up.
use Rattle.std.specs.Prelude.{◌≡◌, ℕ, zero, suc, pos, ◌^◌, ◌<◌, ◌≤◌, ℤ, unsigned_abs, sum_by, List, [], ◌∷◌}
use Rattle.std.specs.Prelude.{length, slice_index_or}
use Rattle.std.proofs.Common.{refl, ap, sym, ◌∙◌, arith}
use Rattle.std.proofs.lemmas.Int.{ints}
use Rattle.std.proofs.lemmas.List.Sums.{sum_by-cons}
use mathlib.Core.Path.{ap₂}
use Rattle.frac_laws.specs.Fraction.{Fraction, over, whole, size, ◌+ℚ◌, ◌-ℚ◌, ◌≤ℚ◌}
use Rattle.frac_laws.specs.Sums.{sum_of_list}
use Rattle.frac_laws.specs.Lists.{Vector, number_at, subtract_lists}
use Rattle.frac_laws.specs.Norms.{Sum, norm_of_vector}
use Rattle.frac_laws.proofs.FractionTerms.{ring, terms}
use Rattle.frac_laws.proofs.Linear.{linear, claims, natural, ◌⊞◌, ◌⊠◌}
use Rattle.frac_laws.proofs.Norms.{number_below_norm, size_zero}
use Rattle.frac_laws.proofs.Order.{le_trans, le_of_equal}
use Rattle.frac_laws.proofs.Quotients.{cross_of_over_le, over_add}
use Rattle.frac_laws.proofs.Sizes.{size_add, size_sub, size_of_natural}
use Rattle.frac_laws.proofs.Vectors.{number_at-subtract_lists}
use Rattle.frac_laws.proofs.SizeFacts.{size-over, abs_of_size}
use Rattle.frac_laws.proofs.QuotientFacts.{over-zero}
use Rattle.step_laws.proofs.Distances.{norm_by_distance}
use Rattle.sweep_laws.specs.SweepLaws.{units}
use Rattle.sweep_laws.proofs.Sweeps.{units-order}
use Rattle.kolmogorov_forward.specs.MonthRuns.{AreWithin}
use Rattle.linear_system.specs.StandsFor.{in_units}
use Rattle.linear_system.proofs.NumbersInUnits.{at-units}

-- the sizes of whole numbers add up to the norm of the numbers that they are units of
sizes-units : (numbers : List ℤ)
    → norm_of_vector Sum (in_units numbers) ≡ over (pos (sum_by unsigned_abs numbers)) (2 ^ 64)
sizes-units [] = sym (over-zero (2 ^ 64))
sizes-units (z ∷ numbers) =
    ap₂ ◌+ℚ◌ (size-over z (2 ^ 64)) (sizes-units numbers)
    ∙ sym (over_add (pos (unsigned_abs z)) (pos (sum_by unsigned_abs numbers)) (2 ^ 64))
    ∙ ap (λ n. over (pos n) (2 ^ 64)) (sym (sum_by-cons unsigned_abs z numbers))

-- near a vector of norm at most 2 they add up to at most 4
pub sizes_near : (v : Vector) (numbers : List ℤ) (rad : ℕ) → norm_of_vector Sum v ≤ℚ whole (pos 2)
    → AreWithin rad v numbers → rad ≤ 2 ^ 45 → sum_by unsigned_abs numbers ≤ 2 ^ 66
sizes_near v numbers rad small near few =
    let total = sum_by unsigned_abs numbers in
    let most : over (pos total) (2 ^ 64) ≤ℚ over (pos 4) 1 =
    le_trans (le_of_equal (sym (sizes-units numbers)))
    (le_trans (norm_by_distance Sum v (in_units numbers))
    (four (norm_of_vector Sum v) _ small (le_trans near (units-order rad (2 ^ 45) few)))) in
    let cross = cross_of_over_le (pos total) (pos 4) (2 ^ 64) 1 (omega arith) (omega arith) most in
    omega (arith, ints, cross)
  where
    four : (x y : Fraction) → x ≤ℚ whole (pos 2) → y ≤ℚ units (2 ^ 45) → x +ℚ y ≤ℚ over (pos 4) 1
    four x y h k = linear (x ∷ y ∷ []) (h ⊞ k) (hlevel claims) refl

-- the number of a state
pub state_near : (v : Vector) (numbers : List ℤ) (rad i : ℕ) → AreWithin rad v numbers → i < length numbers
    → size (number_at v i -ℚ over (slice_index_or numbers i (pos 0)) (2 ^ 64)) ≤ℚ units rad
state_near v numbers rad i near inside =
    le_trans (le_of_equal (ap size (sym (number_at-subtract_lists v (in_units numbers) i
    ∙ ap (λ y. number_at v i -ℚ y) (at-units numbers i inside)))))
    (le_trans (number_below_norm Sum (subtract_lists v (in_units numbers)) i) near)

-- the size of a sum is no larger than the sizes together
size_of_total : (v : Vector) → size (sum_of_list v) ≤ℚ norm_of_vector Sum v
size_of_total [] = le_of_equal size_zero
size_of_total (x ∷ v) =
    linear (size (x +ℚ sum_of_list v) ∷ size x ∷ size (sum_of_list v) ∷ norm_of_vector Sum v ∷ [])
    (size_add x (sum_of_list v) ⊞ size_of_total v) (hlevel claims) refl

-- what the other numbers add up to is no larger than their sizes together
others_small : (v : Vector) (i : ℕ)
    → size (sum_of_list v -ℚ number_at v i) +ℚ size (number_at v i) ≤ℚ norm_of_vector Sum v
others_small [] i =
    let none : whole (pos 0) -ℚ whole (pos 0) ≡ whole (pos 0) = ring [] (hlevel terms) refl in
    let nothing : whole (pos 0) +ℚ whole (pos 0) ≡ whole (pos 0) = ring [] (hlevel terms) refl in
    le_of_equal (ap₂ ◌+ℚ◌ (ap size none ∙ size_zero) size_zero ∙ nothing)
others_small (x ∷ v) zero =
    let rest : (x +ℚ sum_of_list v) -ℚ x ≡ sum_of_list v = ring (x ∷ sum_of_list v ∷ []) (hlevel terms) refl in
    linear (size ((x +ℚ sum_of_list v) -ℚ x) ∷ size x ∷ norm_of_vector Sum v ∷ [])
    (le_trans (le_of_equal (ap size rest)) (size_of_total v)) (hlevel claims) refl
others_small (x ∷ v) (suc i) =
    let y = number_at v i in
    let rest : (x +ℚ sum_of_list v) -ℚ y ≡ x +ℚ (sum_of_list v -ℚ y) =
    ring (x ∷ sum_of_list v ∷ y ∷ []) (hlevel terms) refl in
    linear (size ((x +ℚ sum_of_list v) -ℚ y) ∷ size (sum_of_list v -ℚ y) ∷ size x ∷ size y ∷ norm_of_vector Sum v ∷ [])
    (le_trans (le_of_equal (ap size rest)) (size_add x (sum_of_list v -ℚ y)) ⊞ others_small v i) (hlevel claims) refl

-- of numbers that add up to 1 with sizes of at most 2 together, none is larger than 3/2
pub probability_most : (v : Vector) (i : ℕ) → norm_of_vector Sum v ≤ℚ whole (pos 2) → sum_of_list v ≡ whole (pos 1)
    → size (number_at v i) ≤ℚ over (pos 3) 2
probability_most v i small one =
    let x = number_at v i in
    let total = sum_of_list v in
    let own : x ≡ total -ℚ (total -ℚ x) = ring (x ∷ total ∷ []) (hlevel terms) refl in
    linear (size x ∷ size total ∷ size (total -ℚ x) ∷ norm_of_vector Sum v ∷ [])
    ((le_trans (le_of_equal (ap size own)) (size_sub total (total -ℚ x)) ⊞ others_small v i ⊞ small
    ⊞ le_of_equal (ap size one ∙ size_of_natural (natural 1 1))) ⊠ natural 1 2) (hlevel claims) refl

-- so no number near them is larger than 2
pub numbers_most : (v : Vector) (numbers : List ℤ) (rad i : ℕ) → norm_of_vector Sum v ≤ℚ whole (pos 2)
    → sum_of_list v ≡ whole (pos 1) → AreWithin rad v numbers → rad ≤ 2 ^ 45 → i < length numbers
    → unsigned_abs (slice_index_or numbers i (pos 0)) ≤ 2 ^ 65
numbers_most v numbers rad i small one near few inside =
    let x = number_at v i in
    let z = slice_index_or numbers i (pos 0) in
    abs_of_size z (2 ^ 65) (2 ^ 64) (omega arith)
    (two (size (over z (2 ^ 64))) (size x) (size (x -ℚ over z (2 ^ 64))) (by_distance x (over z (2 ^ 64)))
    (probability_most v i small one)
    (le_trans (state_near v numbers rad i near inside) (units-order rad (2 ^ 45) few)))
  where
    by_distance : (x y : Fraction) → size y ≤ℚ size x +ℚ size (x -ℚ y)
    by_distance x y =
        let is : y ≡ x -ℚ (x -ℚ y) = ring (x ∷ y ∷ []) (hlevel terms) refl in
        le_trans (le_of_equal (ap size is)) (size_sub x (x -ℚ y))

    two : (s x d : Fraction) → s ≤ℚ x +ℚ d → x ≤ℚ over (pos 3) 2 → d ≤ℚ units (2 ^ 45)
        → s ≤ℚ over (pos (2 ^ 65)) (2 ^ 64)
    two s x d h k e = linear (s ∷ x ∷ d ∷ []) (h ⊞ k ⊞ e) (hlevel claims) refl
