use Rattle.std.proofs.Common.{◌≡◌, ℕ, ◌<◌}
use Rattle.curve_pieces.specs.Records.{records_of}
use Rattle.curve_pieces.specs.BrokenRules.{IsBoundedAt}
use Rattle.curve_pieces.proofs.rules.first_unbounded.Given as goal

-- the pieces so far are bounded
abbrev pub invariant-loop-i : goal.invariant-loop-i
invariant-loop-i l =
    (l.index ≡ l.i) × ((k : ℕ) → k < l.i → IsBoundedAt l.months (records_of l.pieces) k)
