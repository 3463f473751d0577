-- Growth of an error over a cell, and load and pay of payments. This product's own.
use Rattle.std.specs.Prelude.{ℕ, ◌+◌, ◌-◌, ◌*◌, ◌^◌, ◌-ℤ◌, unsigned_abs, map, sum, length, List, [], ◌∷◌}
use Rattle.std.specs.Int.{div_ceil}
use Rattle.named_numbers.specs.Numbers.{cells_of_half_year, cells_of_two_years, bernstein_unit, pay_unit}
use Rattle.whole_laws.specs.Whole.{list_of, greatest_whole, least_whole, greatest_natural, natural_part}
use Rattle.model_specs.specs.Product.{Product, Step}
use Rattle.model_specs.specs.Payments.{Plan, step_at, sojourn_at, sum_at}
use Rattle.model_specs.specs.MonthNumbers.{bernstein_numerators, month_unit, greatest_rate, exits, rho}
use Rattle.model_specs.specs.MonthNumbers.{iota, nu}

-- phi40: 2^40 (5 rho + 6 iota) / 768, rounded up
abbrev pub phi40 : Product → ℕ → ℕ
phi40 product month =
    div_ceil (2 ^ 40 * (5 * natural_part (rho product month) + 6 * iota product month))
    (cells_of_two_years * month_unit product)

-- kappa40: an error grows over a cell of the month by at most kappa40 / 2^40 of itself
abbrev pub kappa40 : Product → ℕ → ℕ
kappa40 product month = div_ceil (9 * phi40 product month ^ 2) (2 ^ 44)
    + div_ceil (2 ^ 40 * nu product month) (cells_of_half_year * month_unit product)

-- the load of a payment in a month, in minor units (a year, for a sojourn): the greatest size of its
-- Bernstein coefficients and four times their spread, rounded up
abbrev pub load : Step → ℕ → ℕ
load step month =
    let b = bernstein_numerators step.c (month - step.from) in
    div_ceil (greatest_natural (map unsigned_abs b) + 4 * natural_part (greatest_whole b -ℤ least_whole b))
    bernstein_unit

-- what a state pays in a month, a year, over the month's denominator: the load of its sojourn rate, and
-- for each exit the greatest rate times the load of the sum
abbrev pub state_pay : Product → Plan → ℕ → ℕ → ℕ
state_pay product plan month state =
    load (sojourn_at plan state month) month * month_unit product
    + sum (map (λ e. natural_part (greatest_rate product e month) * load (sum_at plan e month) month)
    (exits product state))

-- pay: what a cell of the month may add to the bound ledger, in 1/1024 minor units
abbrev pub pay : Product → Plan → ℕ → ℕ
pay product plan month =
    div_ceil (pay_unit * greatest_natural (list_of (length product.states) (state_pay product plan month)))
    (cells_of_half_year * month_unit product)

-- the size of a transition's sum over the term: its greatest load over the months, and 0 where nothing
-- is paid
abbrev pub sum_size : ℕ → List Step → ℕ
sum_size months [] = 0
sum_size months (step ∷ steps) = greatest_natural (list_of months (λ m. load (step_at (step ∷ steps) m) m))

-- the greatest size of a plan's transition sums
abbrev pub greatest_sum : Product → Plan → ℕ
greatest_sum product plan = greatest_natural (map (sum_size product.months) plan.sums)
