-- The rows of a table of reserves, date by date.
use Rattle.std.specs.Prelude.{◌≡◌, ℕ, ◌+◌, ◌*◌, ◌<◌, ◌≤◌, pos, List, length, slice_index_or}
use Rattle.frac_laws.specs.Ledger.{tolerance_first}
use Rattle.fixed_interval.specs.declared.printed.Printed.{Printed}
use Rattle.fixed_interval.specs.Tables.{AreEndsFor}
use Rattle.model_specs.specs.Product.{Product}
use Rattle.model_specs.specs.Payments.{payment_plan}
use Rattle.model_specs.specs.Ledgers.{radius, scale}
use Rattle.model_specs.specs.Runs.{reserve}
use Rattle.payment_plan.specs.declared.pattern.Which.TheVariants.{Benefits}
use Rattle.thiele_backward.specs.Results.{HoldAround, spare_at}
use Rattle.thiele_backward.specs.Sweeps.{BackwardSweep, at_term}

-- a sweep of the payment plan from the term
pub record SweepsReserves (s : BackwardSweep) : Type 0 where
  pub which : s.which ≡ Benefits
  pub begun : s.begun ≡ at_term s.product

-- the ends at a place
abbrev pub ends_of : List Printed → ℕ → Printed
ends_of cells place = slice_index_or cells place (record { lo = pos 0; hi = pos 0 })

-- ends hold the reserve at a date in a state, of each degree from one on, and what is within a unit of it
pub record IsReserveAt (product : Product) (degree date state : ℕ) (ends : Printed) : Type 0 where
  pub holds : AreEndsFor degree (λ n. reserve product (payment_plan product) n date state)
      (tolerance_first (radius product date) (scale product (payment_plan product))) ends
  pub around : HoldAround degree (λ n. reserve product (payment_plan product) n date state) (spare_at product date) ends

-- the ends of a row hold the reserves of a date in all states
abbrev pub HasDate : Product → (degree date row : ℕ) → List Printed → Type 0
HasDate product degree date row cells =
    (state : ℕ) → state < length product.states
    → IsReserveAt product degree date state (ends_of cells (row * length product.states + state))

-- from a row on nothing has changed
abbrev pub KeepsRowsFrom : (row states : ℕ) → (old new : List Printed) → Type 0
KeepsRowsFrom row states old new = (place : ℕ) → row * states ≤ place → ends_of new place ≡ ends_of old place
