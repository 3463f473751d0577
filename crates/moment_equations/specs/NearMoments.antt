-- Numbers that stand near both moments, at a date and on the way over a month backward. The first numbers stand for the
-- first moments, the others for the second ones, in units of 2^-64 at the plan's scale G and at G^2.
use Rattle.std.specs.Prelude.{ℕ, suc, ◌-◌, ◌^◌, ◌≤◌, ℤ, List, length, take, drop}
use Rattle.frac_laws.specs.Fraction.{◌*ℚ◌, ◌≤ℚ◌}
use Rattle.frac_laws.specs.Lists.{Vector, scale_list}
use Rattle.frac_laws.specs.Norms.{Sup}
use Rattle.cell_laws.specs.ErrorLaws.{distance}
use Rattle.model_specs.specs.Product.{Product}
use Rattle.model_specs.specs.Payments.{payment_plan}
use Rattle.model_specs.specs.Ledgers.{scale, radius_before_term, second_before_term}
use Rattle.model_specs.specs.Runs.{moments_before_term}
use Rattle.ledger_laws.specs.BeforeTermLaws.{radius_cells, second_cells}
use Rattle.product_cells.specs.EachCell.{plan_scaling}
use Rattle.sweep_laws.specs.ScaledSteps.{both_first, both_second}
use Rattle.sweep_laws.specs.SweepLaws.{units}
use Rattle.linear_system.specs.StandsFor.{in_units}

-- the numbers of the first moments
abbrev pub first_half : Product → List ℤ → Vector
first_half product mid = take (length product.states) (in_units mid)

-- and those of the second moments
abbrev pub second_half : Product → List ℤ → Vector
second_half product mid = drop (length product.states) (in_units mid)

-- how many months before the term a month ends
abbrev pub months_behind : Product → ℕ → ℕ
months_behind product month = product.months - suc month

-- both halves are within the radii of the exact moments of degree n some months before the term, before that date's
-- lumps
pub record AreNear (product : Product) (n months : ℕ) (mid : List ℤ) : Type 0 where
  pub first : distance Sup (scale_list (plan_scaling product (payment_plan product))
      (moments_before_term product (payment_plan product) n months).first) (first_half product mid)
      ≤ℚ units (radius_before_term product months)
  pub second : distance Sup
      (scale_list (plan_scaling product (payment_plan product) *ℚ plan_scaling product (payment_plan product))
      (moments_before_term product (payment_plan product) n months).second) (second_half product mid)
      ≤ℚ units (second_before_term product (payment_plan product) (2 ^ scale product (payment_plan product)) months)

-- and after some cells of the month before, after none with the lumps of the month's end
pub record AreNearIn (product : Product) (n months done : ℕ) (mid : List ℤ) : Type 0 where
  pub first : distance Sup (both_first product n months done) (first_half product mid)
      ≤ℚ units (radius_cells product months done)
  pub second : distance Sup (both_second product n months done) (second_half product mid)
      ≤ℚ units (second_cells product (payment_plan product) (2 ^ scale product (payment_plan product)) months done)

-- what is near before is near after some cells, for each run from a degree on
abbrev pub StaysNear : Product → (months degree done : ℕ) → (old new : List ℤ) → Type 0
StaysNear product months degree done old new =
    (n : ℕ) → degree ≤ n → AreNearIn product n months 0 old → AreNearIn product n months done new

-- and over a whole month with its lumps
abbrev pub EnclosesMonth : Product → (months degree : ℕ) → (old new : List ℤ) → Type 0
EnclosesMonth product months degree old new =
    (n : ℕ) → degree ≤ n → AreNear product n months old → AreNear product n (suc months) new
