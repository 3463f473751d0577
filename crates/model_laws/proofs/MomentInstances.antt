-- The second moment of a certain lump.
use Rattle.std.specs.Prelude.{◌≡◌, ℕ, suc, pos, [], refl}
use Rattle.std.proofs.Common.{subst, ◌∙◌}
use Rattle.frac_laws.specs.Fraction.{whole, over, ◌*ℚ◌}
use Rattle.frac_laws.proofs.FractionTerms.{ring, terms}
use Rattle.model_specs.specs.Product.{Product}
use Rattle.model_specs.specs.Payments.{Plan, payment_plan}
use Rattle.model_specs.specs.Cells.{Backward, cells_of_32, cell_curves}
use Rattle.model_specs.specs.Systems.{norberg_pair}
use Rattle.model_specs.specs.Runs.{second_moment, before_lumps, moments_before_term}
use Rattle.model_laws.specs.Examples.{lump_on}
use Rattle.model_laws.specs.FlatLaws.{steady_product}
use Rattle.model_laws.specs.MomentLaws.{LumpHasNoVariance}
use Rattle.model_laws.proofs.FlatCells.{IsFlatCell}
use Rattle.model_laws.proofs.FlatRuns.{flat}
use Rattle.model_laws.proofs.FlatInstances.{lump_at_the_term}
use Rattle.model_laws.proofs.Moments.{cell_keeps_second, month_keeps_second}

abbrev lump_product : Product
lump_product = steady_product 1 (pos 0) (lump_on 1 (pos 100))

abbrev lump_plan : Plan
lump_plan = payment_plan lump_product

-- a cell of it pays nothing
bare : (cell : ℕ) → IsFlatCell (cell_curves (cells_of_32 Backward) lump_product lump_plan 0 cell) (whole (pos 0))
bare cell =
    let none : over (pos 1) 384 *ℚ over (pos 0) 1 ≡ whole (pos 0) = ring [] (hlevel terms) refl in
    subst (λ paid. IsFlatCell (cell_curves (cells_of_32 Backward) lump_product lump_plan 0 cell) paid) none
    (flat 1 (pos 0) (lump_on 1 (pos 100)) 0 cell)

second_is : (n : ℕ) → second_moment lump_product n 0 0 ≡ whole (pos 10000)
second_is n =
    month_keeps_second (λ cell. norberg_pair (cell_curves (cells_of_32 Backward) lump_product lump_plan 0 cell)) n 32
    (λ cell w v. cell_keeps_second (cell_curves (cells_of_32 Backward) lump_product lump_plan 0 cell)
    (bare cell) w v n)
    (before_lumps lump_product lump_plan 1 (moments_before_term lump_product lump_plan n 0))
    ∙ ring [] (hlevel terms) refl

pub lump_has_no_variance : LumpHasNoVariance
lump_has_no_variance n = (
  second_is (suc n),
  rw (second_is (suc n), (lump_at_the_term n).1) (ring [] (hlevel terms) refl),
)
