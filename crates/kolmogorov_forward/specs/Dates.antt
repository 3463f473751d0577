-- The rows of a table of probabilities, date by date.
use Rattle.std.specs.Prelude.{◌≡◌, ℕ, ◌+◌, ◌*◌, ◌<◌, List, length}
use Rattle.frac_laws.specs.Ledger.{tolerance_first}
use Rattle.fixed_interval.specs.declared.printed.Printed.{Printed}
use Rattle.fixed_interval.specs.Tables.{AreEndsFor}
use Rattle.model_specs.specs.Product.{Product}
use Rattle.model_specs.specs.Ledgers.{radius_forward}
use Rattle.model_specs.specs.Runs.{probability}
use Rattle.thiele_backward.specs.Dates.{ends_of}
use Rattle.kolmogorov_forward.specs.Results.{ends_at_issue}

-- ends hold the probability at a date of a state, of each degree from one on, and at issue they are exact
pub record IsProbabilityAt (product : Product) (degree date state : ℕ) (ends : Printed) : Type 0 where
  pub holds : AreEndsFor degree (λ n. probability product n date state)
      (tolerance_first (radius_forward product date) 0) ends
  pub issue : date ≡ 0 → ends ≡ ends_at_issue product state

-- the ends of a row hold the probabilities at a date of all states
abbrev pub HasDate : Product → (degree date row : ℕ) → List Printed → Type 0
HasDate product degree date row cells =
    (state : ℕ) → state < length product.states
    → IsProbabilityAt product degree date state (ends_of cells (row * length product.states + state))

-- below a row nothing has changed
abbrev pub KeepsRowsBelow : (row states : ℕ) → (old new : List Printed) → Type 0
KeepsRowsBelow row states old new = (place : ℕ) → place < row * states → ends_of new place ≡ ends_of old place
