-- What a valued file keeps.
use Rattle.std.specs.Prelude.{◌≡◌, ℕ, ◌+◌, ◌^◌, ◌<◌, ◌≤◌, All, List, Vec}
use Rattle.std.specs.declared.alloc.Global.{Global}
use Rattle.fixed_interval.specs.declared.tables.Table.{Table}
use Rattle.model_specs.specs.Product.{Product}
use Rattle.whole_laws.specs.Whole.{list_of}
use Rattle.state_graph.specs.StateGraphs.{texts_of}
use Rattle.thiele_backward.specs.Results.{AreReserves}
use Rattle.claim_audit.specs.Audits.{tolerance_at}

-- the term, the states' names, the reserves of every month and the tolerance of each date
pub record KeepsReserves (product : Product) (months : ℕ) (states : List (Vec ℕ Global)) (table : Table)
    (tolerances : List ℕ) : Type 0 where
  pub months_are : months ≡ product.months
  pub early : months < 2 ^ 31
  pub states_are : texts_of states ≡ product.states
  pub reserves : AreReserves product 1 table
  pub tolerances_are : tolerances ≡ list_of (months + 1) (tolerance_at product)
  pub small : All (λ tolerance. tolerance ≤ 2 ^ 58) tolerances
