-- What a table of moments holds.
use Rattle.std.specs.Prelude.{◌≡◌, ℕ, length}
use Rattle.frac_laws.specs.Ledger.{tolerance_second, tolerance_variance}
use Rattle.fixed_interval.specs.declared.tables.MomentTable.{MomentTable}
use Rattle.fixed_interval.specs.Tables.{IsTableIn, whole_units}
use Rattle.model_specs.specs.Product.{Product}
use Rattle.model_specs.specs.Payments.{payment_plan}
use Rattle.model_specs.specs.Ledgers.{radius, second_radius, scale}
use Rattle.model_specs.specs.Rows.{variance}
use Rattle.model_specs.specs.Runs.{second_moment}
use Rattle.thiele_backward.specs.Results.{AreReserves}

-- first moments, second moments and variances of the payment plan by date and state, each between ends that are no
-- further apart than their tolerance, and all for the same degree
pub record AreMoments (product : Product) (every : ℕ) (t : MomentTable) : Type 0 where
  pub first : AreReserves product every t.first
  pub second : IsTableIn whole_units product.months (length product.states) every (second_moment product)
      (λ date. tolerance_second (second_radius product date) (scale product (payment_plan product))) t.second
  pub variance : IsTableIn whole_units product.months (length product.states) every (variance product)
      (λ date. tolerance_variance (second_radius product date) (radius product date)
      (scale product (payment_plan product))) t.variance
  pub second_degree : t.second.degree ≡ t.first.degree
  pub variance_degree : t.variance.degree ≡ t.first.degree
