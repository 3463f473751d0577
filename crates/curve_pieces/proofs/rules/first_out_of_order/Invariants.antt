use Rattle.std.proofs.Common.{◌≡◌, ℕ, ◌<◌}
use Rattle.curve_pieces.specs.Records.{starts_of}
use Rattle.curve_pieces.specs.BrokenRules.{StartsInOrder}
use Rattle.curve_pieces.proofs.rules.first_out_of_order.Given as goal

-- the pieces so far are in order
abbrev pub invariant-loop-i : goal.invariant-loop-i
invariant-loop-i l =
    (l.index ≡ l.i) × ((k : ℕ) → k < l.i → StartsInOrder l.months (starts_of l.pieces) k)
