-- The numbers and the bounds of all months of a product.
use Rattle.std.specs.Prelude.{◌≡◌, ℕ, pos, ◌<◌, List, length, slice_index_or}
use Rattle.whole_laws.specs.Whole.{greatest_whole, least_whole}
use Rattle.model_specs.specs.Product.{Product}
use Rattle.model_specs.specs.Payments.{payment_plan, pattern_plan}
use Rattle.model_specs.specs.MonthNumbers as model
use Rattle.model_specs.specs.Growth as growth
use Rattle.rate_bounds.specs.declared.bounds.MonthBounds.{MonthBounds}
use Rattle.rate_bounds.specs.declared.curves.MonthCurves.{MonthCurves}
use Rattle.rate_bounds.specs.MonthRates.{least_rate}

-- these are the numbers of a month
pub record AreCurves (product : Product) (month : ℕ) (c : MonthCurves) : Type 0 where
  pub rho : c.rho ≡ model.rho product month
  pub high : c.high ≡ greatest_whole (model.curve_numerators product.interest month)
  pub low : c.low ≡ least_whole (model.curve_numerators product.interest month)
  pub least : c.least ≡ least_rate product month

-- a table has one item for each of the first months, and each is one of its month
pub record IsTableOf {A : Type 0} (IsOf : ℕ → A → Type 0) (months : ℕ) (items : List A) : Type 0 where
  pub count : length items ≡ months
  pub each : (month : ℕ) (d : A) → month < months → IsOf month (slice_index_or items month d)

-- these are the numbers of the first months
abbrev pub AreCurvesUpTo : Product → ℕ → List MonthCurves → Type 0
AreCurvesUpTo product months curves = IsTableOf (AreCurves product) months curves

-- these are the bounds of a month
pub record AreBounds (product : Product) (month : ℕ) (b : MonthBounds) : Type 0 where
  pub rho : b.rho ≡ model.rho product month
  pub iota : b.iota ≡ pos (model.iota product month)
  pub nu : b.nu ≡ pos (model.nu product month)
  pub kappa40 : b.kappa40 ≡ growth.kappa40 product month
  pub pay : b.pay1024 ≡ growth.pay product (payment_plan product) month
  pub pattern : b.pattern1024 ≡ growth.pay product (pattern_plan product) month

-- these are the bounds of the first months
abbrev pub AreBoundsUpTo : Product → ℕ → List MonthBounds → Type 0
AreBoundsUpTo product months bounds = IsTableOf (AreBounds product) months bounds
