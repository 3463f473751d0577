-- How large the numbers of a month are where rules 15 to 17 hold.
use Rattle.std.specs.Prelude.{◌≡◌, ℕ, ◌*◌, ◌^◌, ◌<◌, ◌≤◌, ℤ, pos, ◌≤ℤ◌, true, map, length}
use Rattle.whole_laws.specs.Whole.{whole_sum}
use Rattle.model_specs.specs.Product.{Product}
use Rattle.model_specs.specs.MonthNumbers.{month_unit, greatest_rate, exits, rho, iota, nu}
use Rattle.model_specs.specs.Growth.{kappa40}
use Rattle.model_specs.specs.RecordRules.{IsWellFormed}
use Rattle.model_specs.specs.ValuationRules.{obeys_rule_15, obeys_rule_16, obeys_rule_17, IsAdmissible}

-- rules 15 to 17 hold in a month
pub record ObeysMonthRules (product : Product) (month : ℕ) : Type 0 where
  pub interest : obeys_rule_15 product month ≡ true
  pub rates : obeys_rule_16 product month ≡ true
  pub exits : obeys_rule_17 product month ≡ true

-- they hold in each month of the term
abbrev pub ObeysAllMonths : Product → Type 0
ObeysAllMonths product = (month : ℕ) → month < product.months → ObeysMonthRules product month

-- an admissible product obeys them
abbrev pub AdmissibleProductsObey : Type 0
AdmissibleProductsObey = (product : Product) → IsAdmissible product → ObeysAllMonths product

-- the greatest rates of a state's exits in a month, added up
abbrev pub exit_rates : Product → ℕ → ℕ → ℤ
exit_rates product month state = whole_sum (map (λ e. greatest_rate product e month) (exits product state))

-- the growth of a cell at the limits of rules 15 and 17: a rate of 2, and interest of 1/4 and of -1/50
abbrev pub greatest_kappa40 : ℕ
greatest_kappa40 = 253206639

-- the sums of rates are from 0 to 2 a year, the interest from -1/50 to 1/4, and a cell grows by at most 1/4096
pub record HasSmallNumbers (product : Product) (month : ℕ) : Type 0 where
  pub some_unit : 2488320 ≤ month_unit product
  pub unit_most : month_unit product ≤ 2488320 * 10 ^ 12
  pub rates_natural : (e : ℕ) → e < length product.transitions → pos 0 ≤ℤ greatest_rate product e month
  pub rates_most : (e : ℕ) → e < length product.transitions
      → greatest_rate product e month ≤ℤ pos (2 * month_unit product)
  pub exits_natural : (i : ℕ) → pos 0 ≤ℤ exit_rates product month i
  pub exits_most : (i : ℕ) → i < length product.states
      → exit_rates product month i ≤ℤ pos (2 * month_unit product)
  pub rho_natural : pos 0 ≤ℤ rho product month
  pub rho_most : rho product month ≤ℤ pos (2 * month_unit product)
  pub iota_most : iota product month * 4 ≤ month_unit product
  pub nu_most : nu product month * 50 ≤ month_unit product
  pub kappa_most : kappa40 product month ≤ greatest_kappa40
  pub kappa_below : kappa40 product month ≤ 2 ^ 28

-- so it is in a month in which the rules hold
abbrev pub MonthNumbersAreSmall : Type 0
MonthNumbersAreSmall = (product : Product) (month : ℕ) → IsWellFormed product → ObeysMonthRules product month
    → HasSmallNumbers product month
