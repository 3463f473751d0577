-- Tests of sizes, coefficient by coefficient and month by month.
use Rattle.std.proofs.Common.{◌≡◌, ℕ, zero, suc, ◌*◌, ◌^◌, ◌<◌, ◌≤◌, ℤ, pos, Bool, true, false, ◌&&◌, nat_le}
use Rattle.std.proofs.Common.{List, [], ◌∷◌, length, get_or, refl, ap, sym, ◌∙◌, arith}
use mathlib.Core.Path.{ap₂}
use Rattle.std.specs.Prelude.{unsigned_abs}
use Rattle.std.specs.List.{list_all}
use Rattle.std.proofs.lemmas.Bool.{true_from_ne_false, false≢true, leb-true}
use Rattle.std.proofs.lemmas.Bool.Decides.{nat_tests}
use Rattle.std.proofs.lemmas.List.Folds.{list_all_at}
use Rattle.toml.specs.Data.{Data, Members}
use Rattle.named_numbers.specs.Numbers.{most_coefficient}
use Rattle.whole_laws.specs.Whole.{list_of, places}
use Rattle.model_specs.specs.MonthNumbers.{coefficient_at, bernstein_numerators}
use Rattle.model_specs.specs.RecordRules.{IsBounded, months_of, is_bounded}
use Rattle.product_file.specs.Members.{item_at}
use Rattle.product_file.specs.CurveRules.{months_of_term}
use Rattle.product_file.specs.PaymentRules.{amount_of, are_small}
use Rattle.file_checks.specs.Lists.{starts_of, is_bounded_step_at}
use Rattle.whole_laws.proofs.ListsByPlace.{at-list_of, length-list_of}
use Rattle.whole_laws.proofs.Numbers.{shorter_power}
use Rattle.model_laws.proofs.FourCoefficients.{padded}

-- a test of all values of a function
pub all_of : {A : Type 0} (p : A → Bool) (n : ℕ) (f : ℕ → A) → ((i : ℕ) → i < n → p (f i) ≡ true)
    → true ≡ list_all p (list_of n f)
all_of p zero f passed = refl
all_of p (suc n) f passed =
    sym (ap₂ (λ b c. b && c) (passed 0 (omega arith))
    (sym (all_of p n (λ i. f (suc i)) (λ i below. passed (suc i) (omega arith)))))

pub all_of-fails : {A : Type 0} (p : A → Bool) (n i : ℕ) (f : ℕ → A) → i < n → p (f i) ≡ false
    → false ≡ list_all p (list_of n f)
all_of-fails p n i f inside failed =
    sym (list_all_at p (list_of n f) i (f i) (omega (arith, length-list_of n f))
    (ap p (at-list_of n f i (f i) inside) ∙ failed))

pub passed_of : {A : Type 0} (p : A → Bool) (n i : ℕ) (f : ℕ → A) → list_all p (list_of n f) ≡ true → i < n
    → p (f i) ≡ true
passed_of p n i f all inside =
    true_from_ne_false (p (f i)) (λ failed. false≢true (all_of-fails p n i f inside failed ∙ all))

-- what a comparison of a coefficient's size says
pub size_above : (f u n b m i l : ℕ) → f ≡ u → u ≡ n → b ≡ m ^ i → l < f * b → nat_le (n * m ^ i) l ≡ false
size_above f u n b m i l e k p h =
    let P : ℕ → ℕ → Type 0 = λ x y. l < x * y in
    let above : l < n * m ^ i = rw (← k, ← e, ← p) h in
    over (n * m ^ i) l above
  where
    over : (x y : ℕ) → y < x → nat_le x y ≡ false
    over x y h = grind (arith, nat_tests)

-- a bounded part is bounded over fewer months, with zeros for its last coefficients too
pub bounded_from_test : (c : List ℤ) (s t : ℕ) → s ≤ t → is_bounded c t ≡ true → IsBounded c s
bounded_from_test c s t fewer test = λ i inside.
    shorter_power (unsigned_abs (coefficient_at c i)) s t i most_coefficient fewer
    (leb-true _ _
    (passed_of (λ j. nat_le (unsigned_abs (coefficient_at c j) * t ^ j) most_coefficient) (length c) i (λ j. j) test
    inside))

pub given_four : (p : List ℤ) (a b c d : ℤ) → length p ≡ 4 → a ≡ get_or p 0 (pos 0) → b ≡ get_or p 1 (pos 0)
    → c ≡ get_or p 2 (pos 0) → d ≡ get_or p 3 (pos 0) → a ∷ b ∷ c ∷ d ∷ pos 0 ∷ pos 0 ∷ [] ≡ padded p
given_four [] a b c d h ha hb hc hd = absurd (omega arith)
given_four (p0 ∷ []) a b c d h ha hb hc hd = absurd (omega arith)
given_four (p0 ∷ p1 ∷ []) a b c d h ha hb hc hd = absurd (omega arith)
given_four (p0 ∷ p1 ∷ p2 ∷ []) a b c d h ha hb hc hd = absurd (omega arith)
given_four (p0 ∷ p1 ∷ p2 ∷ p3 ∷ []) a b c d h ha hb hc hd = rw (ha, hb, hc, hd) refl
given_four (p0 ∷ p1 ∷ p2 ∷ p3 ∷ p4 ∷ p) a b c d h ha hb hc hd = absurd (omega arith)

-- a bounded step has small amounts, or is not bounded
pub bounded_step_is : (tree : Members) (items : List Data) (i s : ℕ) (c : List ℤ) (d : Data) → d ≡ item_at items i
    → c ≡ amount_of tree d → s ≡ months_of (months_of_term tree) (starts_of items) i → is_bounded c s ≡ true
    → list_all (λ k. are_small (bernstein_numerators c k)) (places s) ≡ is_bounded_step_at tree items i
bounded_step_is tree items i s c d d_is c_is s_is bounded =
    let P : List ℤ → ℕ → Bool =
    λ c s. is_bounded c s && list_all (λ k. are_small (bernstein_numerators c k)) (places s) in
    ap (λ b. b && list_all (λ k. are_small (bernstein_numerators c k)) (places s)) (sym bounded)
    ∙ ap₂ P (c_is ∙ ap (amount_of tree) d_is) s_is
