-- What the valuation of probabilities answers.
use Rattle.std.specs.Prelude.{◌≡◌, ℕ, ◌*◌, ◌^◌, ◌<◌, ◌==◌, if◌then◌else◌, pos, length}
use Rattle.frac_laws.specs.Ledger.{tolerance_first}
use Rattle.fixed_interval.specs.declared.printed.Printed.{Printed}
use Rattle.fixed_interval.specs.declared.tables.Table.{Table}
use Rattle.fixed_interval.specs.Tables.{IsTableFor, ends_at}
use Rattle.model_specs.specs.Product.{Product}
use Rattle.model_specs.specs.Ledgers.{radius_forward}
use Rattle.model_specs.specs.Runs.{probability}

-- the probabilities by date and state, between ends that are no further apart than their tolerance
abbrev pub AreOccupancies : Product → (every : ℕ) → Table → Type 0
AreOccupancies product every table =
    IsTableFor product.months (length product.states) every (probability product)
    (λ date. tolerance_first (radius_forward product date) 0) table

-- the ends of a whole number, in millionths
abbrev pub whole_ends : ℕ → Printed
whole_ends n = record { lo = pos (n * 10 ^ 6); hi = pos (n * 10 ^ 6) }

-- the ends at issue: exactly 1 in the start state and 0 in the others
abbrev pub ends_at_issue : Product → ℕ → Printed
ends_at_issue product state = whole_ends (if state == product.start then 1 else 0)

-- a table has these ends at date 0
abbrev pub BeginsInStart : Product → Table → Type 0
BeginsInStart product table =
    (state : ℕ) → state < length product.states → ends_at table 0 state ≡ ends_at_issue product state
