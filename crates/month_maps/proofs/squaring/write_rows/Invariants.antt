use Rattle.std.proofs.Common.{ℕ, ◌+◌, ◌*◌, ◌<◌}
use Rattle.month_maps.specs.StoredMap.{interval_at, IsProduct}
use Rattle.month_maps.proofs.squaring.write_rows.Given as goal

abbrev pub invariant-loop-row : goal.invariant-loop-row
invariant-loop-row l =
    (row col : ℕ) → row < l.row → col < l.dim → IsProduct l.dim l.numbers row col
    (interval_at l.next (row * l.dim + col))
