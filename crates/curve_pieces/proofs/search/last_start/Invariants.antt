use Rattle.std.proofs.Common.{◌-◌, ◌<◌, ◌≤◌, length, get_or}
use Rattle.curve_pieces.specs.StartMonths.{starts_as}
use Rattle.curve_pieces.proofs.search.last_start.Given as goal

-- the item at `low` starts at or before the month, and the one at `high`, if there is one, after it
abbrev pub invariant-loop-high : goal.invariant-loop-high
invariant-loop-high g l =
    (l.low < l.high) × (l.high ≤ length l.items) × (get_or (starts_as g.T.Starts.as_piece l.items) l.low 0 ≤ l.month)
    × (l.high < length l.items → l.month < get_or (starts_as g.T.Starts.as_piece l.items) l.high 0)

abbrev pub decreases-loop-high : goal.decreases-loop-high
decreases-loop-high g l = l.high - l.low
