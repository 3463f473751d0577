-- Whole numbers in units of 2^-64 near a vector.
use Rattle.std.specs.Prelude.{ℕ, pos, ◌^◌, ◌≤◌, ℤ, unsigned_abs, List, [], ◌∷◌, length}
use Rattle.std.specs.Prelude.{slice_index_or}
use Rattle.std.proofs.Common.{refl, ap, arith, inl, inr}
use Rattle.std.proofs.lemmas.Bool.{cases_lt}
use Rattle.frac_laws.specs.Fraction.{Fraction, over, whole, size, opposite, ◌-ℚ◌, ◌≤ℚ◌}
use Rattle.frac_laws.specs.Lists.{Vector, number_at}
use Rattle.frac_laws.specs.Norms.{Sup, norm_of_vector}
use Rattle.frac_laws.proofs.FractionTerms.{ring, terms}
use Rattle.frac_laws.proofs.Linear.{linear, claims, ◌⊞◌}
use Rattle.frac_laws.proofs.Order.{le_trans, le_of_equal}
use Rattle.frac_laws.proofs.Norms.{number_below_norm}
use Rattle.frac_laws.proofs.Sizes.{size_add, size-opposite}
use Rattle.frac_laws.proofs.SizeFacts.{abs_of_size}
use Rattle.cell_laws.specs.ErrorLaws.{distance}
use Rattle.taylor_step.specs.CanStep.{AreAtMost}
use Rattle.sweep_laws.specs.SweepLaws.{units}
use Rattle.sweep_laws.proofs.Sweeps.{units-order}
use Rattle.sweep_laws.proofs.PairSweeps.{number_near}
use Rattle.whole_laws.proofs.Members.{past_end}
use Rattle.linear_system.proofs.NumbersInUnits.{at-units}
use Rattle.linear_system.specs.StandsFor.{in_units}

-- numbers near one of at most 1 in size fit
number_most : (x : Fraction) (z : ℤ) → size x ≤ℚ whole (pos 1)
    → size (x -ℚ over z (2 ^ 64)) ≤ℚ over (pos (2 ^ 45)) (2 ^ 64) → unsigned_abs z ≤ 2 ^ 65
number_most x z small near =
    abs_of_size z (2 ^ 65) (2 ^ 64) (omega arith)
    (le_trans (le_of_equal (ap size (ring (x ∷ over z (2 ^ 64) ∷ []) (hlevel terms) refl)))
    (le_trans (size_add x (opposite (x -ℚ over z (2 ^ 64))))
    (rw (size-opposite (x -ℚ over z (2 ^ 64)))
    (linear (size x ∷ size (x -ℚ over z (2 ^ 64)) ∷ []) (near ⊞ small) (hlevel claims) refl))))

pub mid_most : (y : Vector) (mid : List ℤ) (radius : ℕ) → norm_of_vector Sup y ≤ℚ whole (pos 1)
    → distance Sup y (in_units mid) ≤ℚ units radius → radius ≤ 2 ^ 45 → AreAtMost (2 ^ 65) mid
mid_most y mid radius small near few i = elim (cases_lt i (length mid)) [
  | inl b ↦ number_most (number_at y i) (slice_index_or mid i (pos 0)) (le_trans (number_below_norm Sup y i) small)
      (rw (← at-units mid i b)
      (le_trans (number_near y (in_units mid) i) (le_trans near (units-order radius (2 ^ 45) few))))
  | inr past ↦ rw (past_end mid i past) (omega arith)
]
