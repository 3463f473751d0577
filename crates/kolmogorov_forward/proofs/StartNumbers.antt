-- The numbers at issue: 1 in the start state and 0 in the others.
use Rattle.std.specs.Prelude.{◌≡◌, ℕ, pos, ◌^◌, ◌<◌, ◌==◌, if◌then◌else◌, Bool, true, false, ℤ, List, [], length}
use Rattle.std.specs.Prelude.{◌∷◌, replicate, slice_index_or, slice_set}
use Rattle.std.proofs.Common.{refl, ap, sym, ◌∙◌, inl, inr, get_or-set_same, get_or-set_other}
use Rattle.std.proofs.lemmas.Bool.{cases_lt}
use Rattle.std.proofs.lemmas.Bool.Decides.{eqb_tells}
use Rattle.std.proofs.lemmas.List.{get_or-replicate, length-replicate, length-set}
use Rattle.frac_laws.specs.Fraction.{Fraction, over, whole, ◌-ℚ◌}
use Rattle.frac_laws.specs.Lists.{number_at, subtract_lists}
use Rattle.frac_laws.specs.Norms.{Sum}
use Rattle.frac_laws.proofs.FractionTerms.{ring, terms}
use Rattle.frac_laws.proofs.Linear.{natural}
use Rattle.frac_laws.proofs.Norms.{norm-same}
use Rattle.frac_laws.proofs.Order.{le_trans, le_of_equal}
use Rattle.frac_laws.proofs.Vectors.{number_at-subtract_lists}
use Rattle.frac_laws.proofs.QuotientFacts.{over-zero}
use Rattle.model_specs.specs.Product.{Product}
use Rattle.model_specs.specs.Runs.{probability, probabilities}
use Rattle.whole_laws.proofs.ListsByPlace.{at-list_of, past-list_of}
use Rattle.kolmogorov_forward.specs.MonthRuns.{AreNearAt}
use Rattle.linear_system.specs.StandsFor.{in_units}
use Rattle.linear_system.proofs.NumbersInUnits.{at-units, past-units}

-- 1 in the start state and 0 in the others
abbrev pub start_number : Product → ℕ → ℕ
start_number product state = if state == product.start then 1 else 0

-- the probability of a state at issue, in every degree
pub issue-is : (product : Product) (n state : ℕ) → state < length product.states
    → probability product n 0 state ≡ whole (pos (start_number product state))
issue-is product n state inside =
    at-list_of (length product.states) (λ j. if j == product.start then whole (pos 1) else whole (pos 0)) state
    (whole (pos 0)) inside ∙ either (state == product.start)
  where
    either : (b : Bool) → (if b then whole (pos 1) else whole (pos 0)) ≡ whole (pos (if b then 1 else 0))
    either true = refl
    either false = refl

-- 2^64 in the start state and 0 in the others
abbrev start_list : Product → List ℤ
start_list product = slice_set (replicate (length product.states) (pos 0)) product.start (pos (2 ^ 64))

pub start-length : (product : Product) → length (start_list product) ≡ length product.states
start-length product =
    length-set (replicate (length product.states) (pos 0)) product.start (pos (2 ^ 64))
    ∙ length-replicate (length product.states) (pos 0)

number-is : (product : Product) (state : ℕ) → state < length product.states
    → over (slice_index_or (start_list product) state (pos 0)) (2 ^ 64) ≡ whole (pos (start_number product state))
number-is product state inside = elim (eqb_tells state product.start) [
  | inl same ↦ rw same.0 (ap (λ (z : ℤ). over z (2 ^ 64))
      (ap (λ k. slice_index_or (start_list product) k (pos 0)) same.1
      ∙ get_or-set_same zeros product.start (pos (2 ^ 64)) (pos 0)
      (rw (length-replicate (length product.states) (pos 0), ← same.1) inside)) ∙ one)
  | inr other ↦ rw other.0 (ap (λ (z : ℤ). over z (2 ^ 64))
      (get_or-set_other zeros product.start state (pos (2 ^ 64)) (pos 0) other.1
      ∙ get_or-replicate (length product.states) state (pos 0) (pos 0) inside) ∙ over-zero (2 ^ 64))
]
  where
    zeros : List ℤ
    zeros = replicate (length product.states) (pos 0)

    one : over (pos (2 ^ 64)) (2 ^ 64) ≡ whole (pos 1)
    one = ring [] (hlevel terms) refl

-- they are exactly the probabilities at issue
pub start_near : (product : Product) (degree : ℕ) (numbers : List ℤ) → numbers ≡ start_list product
    → AreNearAt product degree 0 numbers
start_near product degree numbers are n from =
    rw are (le_trans (le_of_equal (norm-same Sum
    (subtract_lists (probabilities product n 0) (in_units (start_list product))) [] same)) (natural 0 (2 ^ 64)))
  where
    gone : (x y : Fraction) → x ≡ y → x -ℚ y ≡ whole (pos 0)
    gone x y is = rw is (ring (y ∷ []) (hlevel terms) refl)

    equal : (i : ℕ) → number_at (probabilities product n 0) i ≡ number_at (in_units (start_list product)) i
    equal i = elim (cases_lt i (length product.states)) [
      | inl b ↦ issue-is product n i b ∙ sym (number-is product i b)
          ∙ sym (at-units (start_list product) i (rw (start-length product) b))
      | inr past ↦ past-list_of (length product.states) _ i (whole (pos 0)) past
          ∙ sym (past-units (start_list product) i (rw (start-length product) past))
    ]

    same : (i : ℕ) → number_at (subtract_lists (probabilities product n 0) (in_units (start_list product))) i
        ≡ whole (pos 0)
    same i = number_at-subtract_lists (probabilities product n 0) (in_units (start_list product)) i
        ∙ gone _ _ (equal i)
