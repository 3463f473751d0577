use Rattle.std.proofs.Common.{◌≡◌, ℕ, ◌+◌, ◌*◌, ◌<◌, length, drop, get_or}
use Rattle.std.specs.Prelude.{None}
use Rattle.payment_plan.specs.Records.{lumps_of}
use Rattle.payment_plan.specs.Tables.{amount_at}
use Rattle.payment_plan.proofs.dates.write.Given as goal

-- the amounts of the lumps from i on
abbrev pub invariant-loop-i : goal.invariant-loop-i
invariant-loop-i l =
    (month state : ℕ) → state < l.states → month * l.states + state < length l.table
    → get_or l.table (month * l.states + state) None ≡ amount_at (lumps_of (drop l.i l.lumps)) month state
