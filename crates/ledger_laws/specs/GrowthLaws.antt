-- How ledgers grow, and how large the radii become over a term.
use Rattle.std.specs.Prelude.{◌≡◌, ℕ, suc, ◌+◌, ◌*◌, ◌^◌, ◌<◌, ◌≤◌}
use Rattle.frac_laws.specs.Ledger.{grow}
use Rattle.model_specs.specs.Product.{Product}
use Rattle.model_specs.specs.Growth.{kappa40}
use Rattle.model_specs.specs.Ledgers.{grow_cells, radius, radius_forward}
use Rattle.model_specs.specs.RecordRules.{IsWellFormed}
use Rattle.ledger_laws.specs.MonthLaws.{ObeysAllMonths, greatest_kappa40}

-- the growth of a ledger keeps its order
abbrev pub GrowthKeepsOrder : Type 0
GrowthKeepsOrder = (w v kappa more_kappa add more_add cells : ℕ) → w ≤ v → kappa ≤ more_kappa → add ≤ more_add
    → grow_cells kappa add w cells ≤ grow_cells more_kappa more_add v cells

-- a ledger never falls from cell to cell
abbrev pub CellsNeverFall : Type 0
CellsNeverFall = (kappa add w fewer more : ℕ) → fewer ≤ more
    → grow_cells kappa add w fewer ≤ grow_cells kappa add w more

-- a ledger from 0 that adds the same in each cell of 1200 months, at the greatest growth
abbrev pub LongLedgersStaySmall : Type 0
LongLedgersStaySmall = (ledger : ℕ → ℕ) (add : ℕ) → ledger 0 ≡ 0
    → ((cell : ℕ) → cell < 38400 → ledger (suc cell) ≤ grow (ledger cell) greatest_kappa40 add)
    → (cell : ℕ) → cell ≤ 38400 → ledger cell ≤ 2 ^ 26 * (add + 1)

-- what the radii come to over 1200 months at the greatest growth, in units of 2^-64
abbrev pub greatest_radius : ℕ
greatest_radius = 30779247495

-- both radii at a date
pub record HasSmallRadii (product : Product) (date : ℕ) : Type 0 where
  pub backward : radius product date ≤ greatest_radius
  pub forward : radius_forward product date ≤ greatest_radius
  pub backward_below : radius product date < 2 ^ 39
  pub forward_below : radius_forward product date < 2 ^ 39

-- they are so small at each date of the term where rules 15 to 17 hold in each month
abbrev pub RadiiStaySmall : Type 0
RadiiStaySmall = (product : Product) → IsWellFormed product → ObeysAllMonths product
    → (date : ℕ) → date ≤ product.months → HasSmallRadii product date

-- the backward radius goes from the end of a month to its start
abbrev pub RadiusGoesBack : Type 0
RadiusGoesBack = (product : Product) (month : ℕ) → month < product.months
    → radius product month ≡ grow_cells (kappa40 product month) 1024 (radius product (suc month)) 32

-- both radii after some cells of a month
pub record HasSmallRadiiInside (product : Product) (month cells : ℕ) : Type 0 where
  pub backward : grow_cells (kappa40 product month) 1024 (radius product (suc month)) cells ≤ greatest_radius
  pub forward : grow_cells (kappa40 product month) 1024 (radius_forward product month) cells ≤ greatest_radius

-- and there they are so small inside each month
abbrev pub RadiiStaySmallInside : Type 0
RadiiStaySmallInside = (product : Product) → IsWellFormed product → ObeysAllMonths product
    → (month cells : ℕ) → month < product.months → cells ≤ 32 → HasSmallRadiiInside product month cells
