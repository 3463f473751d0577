-- One month of a ledger.
use Rattle.std.specs.Prelude.{ℕ, suc, ◌+◌, ◌*◌, length}
use Rattle.whole_laws.specs.Whole.{list_of, greatest_natural}
use Rattle.model_specs.specs.Product.{Product}
use Rattle.model_specs.specs.Payments.{Plan, lumps_at}
use Rattle.model_specs.specs.Growth.{kappa40, pay}
use Rattle.model_specs.specs.Ledgers.{grow_cells, second_grow_cells, greatest_lump, date_adds}
use Rattle.rate_bounds.specs.MonthPay.{sum_load}

-- the radius after some cells of a month
unfoldable pub radius_step : Product → ℕ → ℕ → ℕ → ℕ
radius_step product month w cells = grow_cells (kappa40 product month) 1024 w cells

-- the bound ledger after the lumps of a month's end and some cells, from the end
unfoldable pub bound_step : Product → Plan → ℕ → ℕ → ℕ → ℕ
bound_step product plan month bound cells =
    grow_cells (kappa40 product month) (pay product plan month) (bound + 1024 * greatest_lump product plan (suc
    month)) cells

-- the second radius after the lumps of a month's end and some cells, from the end; G is 2^g
unfoldable pub second_step : Product → Plan → ℕ → ℕ → ℕ → ℕ → ℕ → ℕ
second_step product plan G month w second cells =
    second_grow_cells (kappa40 product month) (pay product plan month) G w
    (second + date_adds (lumps_at (length product.states) plan (suc month)) (greatest_lump product plan (suc
    month)) w G)
    cells

-- the size of a transition's sum, by its loads
unfoldable pub sum_size_of : Product → Plan → ℕ → ℕ
sum_size_of product plan e = greatest_natural (list_of product.months (λ m. sum_load plan m e))

-- the greatest of these
unfoldable pub greatest_sum_size : Product → Plan → ℕ
greatest_sum_size product plan = greatest_natural (list_of (length product.transitions) (sum_size_of product plan))
