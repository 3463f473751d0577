-- The ledgers and tolerances of a product at several limits at once, computed.
use Rattle.std.specs.Prelude.{◌≡◌, ◌^◌, refl}
use Rattle.std.proofs.Common.{ap, ◌∙◌, lit<, lit≤}
use mathlib.Core.Path.{ap₂}
use Rattle.frac_laws.specs.Ledger.{scale_of_bound, tolerance_first, tolerance_second, tolerance_variance}
use Rattle.model_specs.specs.Payments.{payment_plan, pattern_plan}
use Rattle.model_specs.specs.Ledgers.{bound1024, scale, radius, second_radius, second_before_term}
use Rattle.model_laws.specs.Examples.{at_the_limits}
use Rattle.model_laws.specs.LedgerInstances.{LimitsCheck}
use Rattle.model_laws.proofs.Scales.{scale_between, scale_zero}

limits_bound : bound1024 at_the_limits (payment_plan at_the_limits) ≡ 9419890484737373
limits_bound = refl

limits_scale : scale at_the_limits (payment_plan at_the_limits) ≡ 44
limits_scale = ap scale_of_bound limits_bound ∙ scale_between 9419890484737373 43 (lit< tt) (lit≤ tt)

pattern_scale : scale at_the_limits (pattern_plan at_the_limits) ≡ 0
pattern_scale = scale_zero (bound1024 at_the_limits (pattern_plan at_the_limits)) (lit≤ tt)

second_of_scale : second_radius at_the_limits 0
    ≡ second_before_term at_the_limits (payment_plan at_the_limits) (2 ^ 44) 24
second_of_scale =
    ap (λ g. second_before_term at_the_limits (payment_plan at_the_limits) (2 ^ g) 24) limits_scale

pub limits_check : LimitsCheck
limits_check = record {
  bound_is = limits_bound;
  scale_is = limits_scale;
  value_is = ap (λ g. tolerance_first (radius at_the_limits 0) g) limits_scale;
  occupancy_is = refl;
  second_is = ap₂ tolerance_second second_of_scale limits_scale;
  variance_is = ap₂ (λ w2 g. tolerance_variance w2 (radius at_the_limits 0) g) second_of_scale limits_scale;
  pattern_scale_is = pattern_scale;
  pattern_is = ap (λ g. tolerance_first (radius at_the_limits 0) g) pattern_scale;
}
