use Rattle.std.proofs.Common.{◌≡◌, ℕ, ◌<◌, map, true}
use Rattle.toml.specs.View.{view, table_view}
use Rattle.file_checks.specs.Lists.{is_good_piece}
use Rattle.file_checks.proofs.pieces.piece_break.Given as goal

-- the pieces so far are good
abbrev pub invariant-loop-i : goal.invariant-loop-i
invariant-loop-i l = (k : ℕ) → k < l.i → is_good_piece (table_view l.tree) (map view l.pieces) k ≡ true
