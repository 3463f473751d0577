-- The numbers of a month, of its transitions and of its payments, as fractions.
use Rattle.std.specs.Prelude.{ℕ, pos, ◌-◌, ◌^◌, ◌-ℤ◌, unsigned_abs, Option, Some, None, map, length}
use Rattle.frac_laws.specs.Fraction.{Fraction, over, whole}
use Rattle.whole_laws.specs.Whole.{list_of, greatest_whole, least_whole, greatest_natural, natural_part}
use Rattle.model_specs.specs.Product.{Product, Step}
use Rattle.model_specs.specs.Payments.{Plan, sojourn_at, sum_at}
use Rattle.model_specs.specs.MonthNumbers.{bernstein_numerators, month_unit, greatest_rate, rho, iota, nu}
use Rattle.model_specs.specs.Growth.{phi40, kappa40, load, state_pay, greatest_sum}
use Rattle.model_specs.specs.Cells.{transition_between}
use Rattle.cell_bounds.specs.CellBounds.{MonthBounds, PlanBounds}

-- rho of a month: the greatest sum of the rates of a state's exits, a year
abbrev pub rho_of : Product → ℕ → Fraction
rho_of product month = over (pos (natural_part (rho product month))) (month_unit product)

-- iota of a month: the greatest size of the force of interest, a year
abbrev pub iota_of : Product → ℕ → Fraction
iota_of product month = over (pos (iota product month)) (month_unit product)

-- nu of a month: how far the force of interest goes below 0, a year
abbrev pub nu_of : Product → ℕ → Fraction
nu_of product month = over (pos (nu product month)) (month_unit product)

-- the part of the growth that phi40 counts
abbrev pub phi_of : Product → ℕ → Fraction
phi_of product month = over (pos (phi40 product month)) (2 ^ 40)

-- the greatest rate of a transition, a year
abbrev pub rate_of : Product → ℕ → ℕ → Fraction
rate_of product month e = over (pos (natural_part (greatest_rate product e month))) (month_unit product)

-- what a transition has, and 0 where there is none
abbrev pub found_value : (ℕ → Fraction) → Option ℕ → Fraction
found_value h None = whole (pos 0)
found_value h (Some e) = h e

-- the greatest rate from one state to another, a year
abbrev pub rates_of : Product → ℕ → ℕ → ℕ → Fraction
rates_of product month i j = found_value (rate_of product month) (transition_between product i j)

-- the load of a state's sojourn rate, in minor units a year
abbrev pub rate_loads : Plan → ℕ → ℕ → Fraction
rate_loads plan month i = whole (pos (load (sojourn_at plan i month) month))

-- the load of the sum that a transition pays, in minor units
abbrev pub load_of : Plan → ℕ → ℕ → Fraction
load_of plan month e = whole (pos (load (sum_at plan e month) month))

-- that of the transition between two states, 0 where there is none
abbrev pub sum_loads : Product → Plan → ℕ → ℕ → ℕ → Fraction
sum_loads product plan month i j = found_value (load_of plan month) (transition_between product i j)

-- the greatest size of a payment's amounts over a month, over 2488320
abbrev pub size_of_step : Step → ℕ → ℕ
size_of_step step month = greatest_natural (map unsigned_abs (bernstein_numerators step.c (month - step.from)))

-- how far they are apart, over 2488320
abbrev pub spread_of_step : Step → ℕ → ℕ
spread_of_step step month =
    let b = bernstein_numerators step.c (month - step.from) in natural_part (greatest_whole b -ℤ least_whole b)

-- the greatest size of the sum of the transition between two states, in minor units
abbrev pub sum_sizes : Product → Plan → ℕ → ℕ → ℕ → Fraction
sum_sizes product plan month i j =
    found_value (λ e. over (pos (size_of_step (sum_at plan e month) month)) 2488320) (transition_between product i j)

-- how far the amounts of that sum are apart, in minor units
abbrev pub sum_spreads : Product → Plan → ℕ → ℕ → ℕ → Fraction
sum_spreads product plan month i j =
    found_value (λ e. over (pos (spread_of_step (sum_at plan e month) month)) 2488320) (transition_between product i j)

-- the most that a state pays, a year, over the month's denominator
abbrev pub most_paid_of : Product → Plan → ℕ → ℕ
most_paid_of product plan month = greatest_natural (list_of (length product.states) (state_pay product plan month))

-- x: the most that a state pays, in minor units a year
abbrev pub most_paid : Product → Plan → ℕ → Fraction
most_paid product plan month = over (pos (most_paid_of product plan month)) (month_unit product)

-- the numbers of a month together
abbrev pub month_bounds : Product → ℕ → MonthBounds
month_bounds product month = record {
  rates = rates_of product month;
  rho = rho_of product month;
  iota = iota_of product month;
  nu = nu_of product month;
  phi = phi_of product month;
  kappa40 = kappa40 product month;
}

-- those of a plan in a month together
abbrev pub plan_bounds : Product → Plan → ℕ → PlanBounds
plan_bounds product plan month = record {
  rate = rate_loads plan month;
  sum = sum_loads product plan month;
  most = most_paid product plan month;
  greatest = whole (pos (greatest_sum product plan));
  largest = sum_sizes product plan month;
  apart = sum_spreads product plan month;
}
