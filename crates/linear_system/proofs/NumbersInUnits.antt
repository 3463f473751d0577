-- Whole numbers in units of 2^-64.
use Rattle.std.specs.Prelude.{◌≡◌, ℕ, ◌^◌, ◌≤◌, pos, [], ◌∷◌, refl, zero, suc, ◌<◌, ℤ, List, length, ◌-◌}
use Rattle.std.specs.Prelude.{slice_index_or, replicate}
use Rattle.std.proofs.Common.{arith, ap, ◌∙◌, inl, inr}
use Rattle.std.proofs.lemmas.Bool.{cases_lt}
use Rattle.std.proofs.lemmas.List.{get_or-replicate, length-replicate}
use Rattle.frac_laws.specs.Fraction.{Fraction, whole, size, ◌-ℚ◌, ◌≤ℚ◌, over}
use Rattle.frac_laws.proofs.FractionTerms.{ring, terms}
use Rattle.frac_laws.proofs.Linear.{natural}
use Rattle.frac_laws.proofs.Norms.{size_zero}
use Rattle.frac_laws.specs.Lists.{number_at}
use Rattle.frac_laws.proofs.QuotientFacts.{over-zero}
use Rattle.linear_system.specs.StandsFor.{units, in_units}

-- a number is within any distance of itself
pub equal_is_near : (x y : Fraction) (error : ℕ) → x ≡ y → size (x -ℚ y) ≤ℚ units (pos error)
equal_is_near x y error e =
    rw (e, nothing y, size_zero) (natural error (2 ^ 64))
  where
    nothing : (y : Fraction) → y -ℚ y ≡ whole (pos 0)
    nothing y = ring (y ∷ []) (hlevel terms) refl

-- what stands at a place, in units of 2^-64, and past the end
pub at-units : (mid : List ℤ) (i : ℕ) → i < length mid
    → number_at (in_units mid) i ≡ over (slice_index_or mid i (pos 0)) (2 ^ 64)
at-units [] i b = absurd (omega arith)
at-units (z ∷ mid) zero b = refl
at-units (z ∷ mid) (suc i) b = at-units mid i (omega arith)

pub past-units : (mid : List ℤ) (i : ℕ) → length mid ≤ i → number_at (in_units mid) i ≡ whole (pos 0)
past-units [] i past = refl
past-units (z ∷ mid) zero past = absurd (omega arith)
past-units (z ∷ mid) (suc i) past = past-units mid i (omega arith)

-- zeros are 0
pub zeros_none : (count i : ℕ) → number_at (in_units (replicate count (pos 0))) i ≡ whole (pos 0)
zeros_none count i = elim (cases_lt i count) [
  | inl b ↦ at-units (replicate count (pos 0)) i (rw (length-replicate count (pos 0)) b)
      ∙ ap (λ (z : ℤ). over z (2 ^ 64)) (get_or-replicate count i (pos 0) (pos 0) b) ∙ over-zero (2 ^ 64)
  | inr past ↦ past-units (replicate count (pos 0)) i (rw (length-replicate count (pos 0)) past)
]
