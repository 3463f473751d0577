-- Reserves of valued files, and what holdings are worth. This product's own.
use Rattle.std.specs.Prelude.{◌≡◌, ℕ, ◌^◌, ◌<◌, ◌≤◌, List, length}
use Rattle.fixed_interval.specs.declared.tables.Table.{Table}
use Rattle.fixed_interval.specs.Tables.{AreEndsFor}
use Rattle.model_specs.specs.Product.{Product}
use Rattle.thiele_backward.specs.Results.{AreReserves}
use Rattle.claim_audit.specs.Audits.{reserve_at, tolerance_at}
use Rattle.portfolio_run.specs.declared.valued.Reserve.{Reserve}
use Rattle.portfolio_run.specs.declared.valued.Missing.{Missing}
use Rattle.portfolio_run.specs.declared.valued.Missing.TheVariants as missing
use Rattle.portfolio_run.specs.Names.{place_in}

-- a product as it was valued, and the degree of the table of its reserves of every month
pub record ValuedProduct : Type 0 where
  pub product : Product
  pub degree : ℕ

-- the degree is that of such a table
pub record IsValued (valued : ValuedProduct) : Type 0 where
  pub table : Table
  pub reserves : AreReserves valued.product 1 table
  pub degree_is : valued.degree ≡ table.degree

-- a product has reserves of a date and of the state with a name
pub record HasReserve (product : Product) (month : ℕ) (state : List ℕ) : Type 0 where
  pub in_term : month ≤ product.months
  pub known : place_in product.states state < length product.states

-- ends of the reserve of a date and of the state with a name, no further apart than the date's tolerance
pub record IsReserve (valued : ValuedProduct) (month : ℕ) (state : List ℕ) (reserve : Reserve) : Type 0 where
  pub ends : AreEndsFor valued.degree
      (λ n. reserve_at valued.product n month (place_in valued.product.states state)) reserve.tol
      (record { lo = reserve.lo; hi = reserve.hi })
  pub has : HasReserve valued.product month state
  pub tolerance_is : reserve.tol ≡ tolerance_at valued.product month
  pub small : reserve.tol ≤ 2 ^ 58

-- what is missing first: the date or the state
abbrev pub IsMissing : Product → (month : ℕ) → (state : List ℕ) → Missing → Type 0
IsMissing product month state missing.Month = product.months < month
IsMissing product month state missing.State =
    (month ≤ product.months) × (length product.states ≤ place_in product.states state)

-- the number of what is missing
abbrev pub part_of_missing : Missing → ℕ
part_of_missing missing.Month = 6
part_of_missing missing.State = 7
