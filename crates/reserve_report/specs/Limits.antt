-- The numbers that tell how exact the answers about a product are.
use Rattle.std.specs.Prelude.{◌≡◌, ◌≤◌, ◌^◌}
use Rattle.model_specs.specs.Product.{Product}
use Rattle.model_specs.specs.Payments.{payment_plan, pattern_plan}
use Rattle.model_specs.specs.Ledgers.{bound1024, scale, radius, radius_forward, second_radius}
use Rattle.reserve_report.specs.declared.limits.Limits.{Limits}

-- they are those of the product's ledgers, and small enough for the tolerances
pub record AreLimits (p : Product) (l : Limits) : Type 0 where
  pub scale_is : l.scale ≡ scale p (payment_plan p)
  pub bound_is : l.bound1024 ≡ bound1024 p (payment_plan p)
  pub radius_is : l.radius ≡ radius p 0
  pub forward_is : l.radius_forward ≡ radius_forward p p.months
  pub second_is : l.radius_second ≡ second_radius p 0
  pub pattern_is : l.pattern_scale ≡ scale p (pattern_plan p)
  pub most_scale : l.scale ≤ 56
  pub most_pattern : l.pattern_scale ≤ 56
  pub most_radius : l.radius ≤ 2 ^ 45
  pub most_forward : l.radius_forward ≤ 2 ^ 45
  pub most_second : l.radius_second ≤ 2 ^ 45
