-- The tolerances, the radius and the cost, computed.
use Rattle.std.specs.Prelude.{◌≡◌, ◌-◌, ◌^◌, refl, ℕ}
use Rattle.std.proofs.Common.{ap}
use mathlib.Core.Path.{ap₂}
use Rattle.frac_laws.specs.Ledger.{tolerance_first, tolerance_second, tolerance_variance}
use Rattle.model_specs.specs.Payments.{payment_plan}
use Rattle.model_specs.specs.Ledgers.{radius, second_radius, second_before_term}
use Rattle.model_laws.specs.Examples.{at_the_limits}
use Rattle.model_laws.proofs.LimitInstances.{limits_check}
use Rattle.product_instances.specs.LedgerRows.{RowsInTheMiddle, RowsAtIssue, ForwardRadius, CostOfStretches}

-- the second radius by the scale
second_of_scale : (month : ℕ) → second_radius at_the_limits month
    ≡ second_before_term at_the_limits (payment_plan at_the_limits) (2 ^ 44) (24 - month)
second_of_scale month =
    ap (λ g. second_before_term at_the_limits (payment_plan at_the_limits) (2 ^ g) (24 - month)) limits_check.scale_is

pub rows_in_the_middle : RowsInTheMiddle
rows_in_the_middle = record {
  reserve_is = ap (λ g. tolerance_first (radius at_the_limits 12) g) limits_check.scale_is;
  first_is = ap (λ g. tolerance_first (radius at_the_limits 12) g) limits_check.scale_is;
  second_is = ap₂ tolerance_second (second_of_scale 12) limits_check.scale_is;
  variance_is = ap₂ (λ w2 g. tolerance_variance w2 (radius at_the_limits 12) g) (second_of_scale 12)
      limits_check.scale_is;
  occupancy_is = refl;
}

pub rows_at_issue : RowsAtIssue
rows_at_issue = record {
  reserve_is = ap (λ g. tolerance_first (radius at_the_limits 0) g) limits_check.scale_is;
  first_is = ap (λ g. tolerance_first (radius at_the_limits 0) g) limits_check.scale_is;
  second_is = ap₂ tolerance_second (second_of_scale 0) limits_check.scale_is;
  variance_is = ap₂ (λ w2 g. tolerance_variance w2 (radius at_the_limits 0) g) (second_of_scale 0)
      limits_check.scale_is;
  occupancy_is = refl;
}

pub forward_radius : ForwardRadius
forward_radius = refl

pub cost_of_stretches : CostOfStretches
cost_of_stretches = (refl, refl)
