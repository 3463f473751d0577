-- What an admitted product keeps.
use Rattle.std.specs.Prelude.{◌≡◌, suc, ◌^◌}
use Rattle.whole_laws.specs.Whole.{list_of}
use Rattle.model_specs.specs.Product.{Product}
use Rattle.model_specs.specs.Payments.{payment_plan, pattern_plan}
use Rattle.model_specs.specs.Ledgers as model
use Rattle.model_specs.specs.ValuationRules.{IsAdmissible}
use Rattle.rate_bounds.specs.declared.ledgers.Ledgers.{Ledgers}
use Rattle.rate_bounds.specs.MonthTables.{AreBoundsUpTo}

-- the bounds of all months, the bound and the scale of the payment plan and of the pattern, the backward radii and the
-- second radii from the term on, and the forward radii from issue on
pub record AreLedgers (product : Product) (l : Ledgers) : Type 0 where
  pub months : AreBoundsUpTo product product.months l.months.items
  pub benefits_bound : l.benefits.bound1024 ≡ model.bound1024 product (payment_plan product)
  pub benefits_scale : l.benefits.scale ≡ model.scale product (payment_plan product)
  pub pattern_bound : l.pattern.bound1024 ≡ model.bound1024 product (pattern_plan product)
  pub pattern_scale : l.pattern.scale ≡ model.scale product (pattern_plan product)
  pub backward : l.radii.items ≡ list_of (suc product.months) (model.radius_before_term product)
  pub second : l.seconds.items ≡ list_of (suc product.months)
      (model.second_before_term product (payment_plan product) (2 ^ model.scale product (payment_plan product)))
  pub forward : l.forwards.items ≡ list_of (suc product.months) (model.radius_forward product)

-- the product obeys all rules, and these are its ledgers
pub record KeepsLedgers (product : Product) (l : Ledgers) : Type 0 where
  pub admissible : IsAdmissible product
  pub ledgers : AreLedgers product l
