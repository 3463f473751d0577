-- The totals of a portfolio by group. This product's own.
use Rattle.std.specs.Prelude.{◌≡◌, ℕ, ◌+◌, ◌≤◌, pos, ◌+ℤ◌, ◌≤ℤ◌, List, All, bytes_eq, fold, length, map, max, Option}
use Rattle.std.specs.Prelude.{slice_get, Some, take, ⊤}
use Rattle.frac_laws.specs.Fraction.{Fraction}
use Rattle.fixed_interval.specs.Printing.{LiesBetween}
use Rattle.named_numbers.specs.Numbers.{least_degree}
use Rattle.portfolio_run.specs.declared.reading.PolicyError.{PolicyError}
use Rattle.portfolio_run.specs.declared.reading.PolicyError.TheVariants as error
use Rattle.portfolio_run.specs.declared.totals.Total.{Total}
use Rattle.portfolio_run.specs.declared.totals.Totals.{Totals}
use Rattle.portfolio_run.specs.declared.valued.Missing.{Missing}
use Rattle.portfolio_run.specs.Holdings.{Holding}
use Rattle.portfolio_run.specs.Names.{place_in}
use Rattle.portfolio_run.specs.Readings.{files_of, groups_of}
use Rattle.portfolio_run.specs.Stored.{Portfolio}
use Rattle.portfolio_run.specs.Sums.{sum_where, total_where, tolerance_by, value_by}
use Rattle.portfolio_run.specs.Values.{HasReserve, IsMissing, ValuedProduct, part_of_missing}

-- the product of a holding's file, as it was valued
abbrev pub valued_for : Portfolio → Holding → Option ValuedProduct
valued_for portfolio holding = slice_get portfolio.valued (place_in (files_of portfolio.holdings) holding.file)

-- the exact value of a holding in a degree, in minor units: its count times the reserve of one contract
abbrev pub value_of : Portfolio → (n : ℕ) → Holding → Fraction
value_of portfolio n holding =
    value_by (valued_for portfolio holding) n holding.month holding.state holding.count

-- its tolerance, in millionths: its count times that of the reserve
abbrev pub tolerance_of : Portfolio → Holding → ℕ
tolerance_of portfolio holding = tolerance_by (valued_for portfolio holding) holding.month holding.count

-- the exact value of the group with a name in a degree
abbrev pub group_value : Portfolio → (n : ℕ) → (name : List ℕ) → Fraction
group_value portfolio n name =
    sum_where (λ holding. bytes_eq name holding.group) (value_of portfolio n) portfolio.holdings

-- and its tolerance
abbrev pub group_tolerance : Portfolio → (name : List ℕ) → ℕ
group_tolerance portfolio name =
    total_where (λ holding. bytes_eq name holding.group) (tolerance_of portfolio) portfolio.holdings

-- the ends of a group hold its exact value in each degree from one on, and are no further apart than its tolerance
pub record IsTotal (portfolio : Portfolio) (degree : ℕ) (total : Total) : Type 0 where
  pub holds : (n : ℕ) → degree ≤ n
      → LiesBetween (record { lo = total.lo; hi = total.hi }) (group_value portfolio n total.name.items)
  pub narrow : total.hi ≤ℤ (total.lo +ℤ pos total.tol)
  pub tolerance_is : total.tol ≡ group_tolerance portfolio total.name.items

-- the product of a holding's file has its date and its state
pub record HasItsReserve (portfolio : Portfolio) (holding : Holding) : Type 0 where
  pub by : ValuedProduct
  pub file : valued_for portfolio holding ≡ Some by
  pub has : HasReserve by.product holding.month holding.state

-- the greatest degree of valued products, or the least of all where there is none
abbrev pub greatest_degree : List ValuedProduct → ℕ
greatest_degree valued = fold (λ most v. max most v.degree) least_degree valued

-- the totals of a portfolio: its groups in the order in which they are first seen, each right
pub record AreTotals (portfolio : Portfolio) (totals : Totals) : Type 0 where
  pub degree_is : totals.degree ≡ greatest_degree portfolio.valued
  pub policies_are : totals.policies ≡ length portfolio.holdings
  pub groups_are : map (λ total. total.name.items) totals.groups.items ≡ groups_of portfolio.holdings
  pub right : All (IsTotal portfolio totals.degree) totals.groups.items
  pub covered : All (HasItsReserve portfolio) portfolio.holdings

-- the first row whose product has not its date or its state, and the number of what is missing
pub record IsFirstUncovered (portfolio : Portfolio) (row part : ℕ) : Type 0 where
  pub place : ℕ
  pub row_is : row ≡ place + 1
  pub holding : Holding
  pub here : slice_get portfolio.holdings place ≡ Some holding
  pub before : All (HasItsReserve portfolio) (take place portfolio.holdings)
  pub by : ValuedProduct
  pub file : valued_for portfolio holding ≡ Some by
  pub missing : Missing
  pub part_is : part ≡ part_of_missing missing
  pub is_missing : IsMissing by.product holding.month holding.state missing

-- an error tells of the first such row, or of nothing
abbrev pub TellsUncovered : Portfolio → PolicyError → Type 0
TellsUncovered portfolio (error.Row found) = IsFirstUncovered portfolio found.row found.part
TellsUncovered portfolio error.Memory = ⊤
