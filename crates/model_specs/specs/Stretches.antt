-- Months in which nothing changes, and the cost of a valuation in steps. This product's own.
use Rattle.std.specs.Prelude.{ℕ, zero, suc, ◌+◌, ℤ, ◌-ℤ◌, unsigned_abs, Bool, false, ◌&&◌, ◌==◌}
use Rattle.std.specs.Prelude.{if◌then◌else◌, List, ◌∷◌, ◌++◌, map, drop, zip, sum, length}
use Rattle.std.specs.List.{list_all}
use Rattle.named_numbers.specs.Numbers.{cells_of_month}
use Rattle.whole_laws.specs.Whole.{list_of}
use Rattle.model_specs.specs.Curve.{piece_at}
use Rattle.model_specs.specs.Product.{Product}
use Rattle.model_specs.specs.Payments.{Plan, sojourn_at, sum_at}
use Rattle.model_specs.specs.MonthNumbers.{coefficient_at}

-- the coefficients of all curves, sojourn rates and transition sums that hold in a month
abbrev pub coefficients_in : Product → Plan → ℕ → List (List ℤ)
coefficients_in product plan month = (piece_at product.interest month).c
    ∷ map (λ t. (piece_at t.rate month).c) product.transitions
    ++ list_of (length product.states) (λ i. (sojourn_at plan i month).c)
    ++ list_of (length product.transitions) (λ e. (sum_at plan e month).c)

-- all are 0 but the first
abbrev pub is_constant : List ℤ → Bool
is_constant c = list_all (λ x. unsigned_abs x == 0) (drop 1 c)

-- a month in which nothing varies: all pieces and steps have c_0 alone
abbrev pub is_constant_month : Product → Plan → ℕ → Bool
is_constant_month product plan month = list_all is_constant (coefficients_in product plan month)

-- every curve, sojourn rate and transition sum has the same first coefficient in two months
abbrev pub keeps_values : Product → Plan → ℕ → ℕ → Bool
keeps_values product plan month other =
    list_all (λ pair. unsigned_abs (coefficient_at pair.0 0 -ℤ coefficient_at pair.1 0) == 0)
    (zip (coefficients_in product plan month) (coefficients_in product plan other))

-- a constant month goes on with the stretch of the month before
abbrev pub continues_stretch : Product → Plan → ℕ → Bool
continues_stretch product plan zero = false
continues_stretch product plan (suc month) =
    is_constant_month product plan month && keeps_values product plan month (suc month)

-- the steps of a month: as many as there are states and one for the first month of a constant stretch,
-- none for its others, and 32 for a month that varies
abbrev pub month_cost : Product → Plan → ℕ → ℕ
month_cost product plan month =
    if is_constant_month product plan month
    then (if continues_stretch product plan month then 0 else length product.states + 1)
    else cells_of_month

-- cost: the steps of a backward valuation of a plan
abbrev pub cost : Product → Plan → ℕ
cost product plan = sum (list_of product.months (month_cost product plan))
