use Rattle.std.proofs.Common.{ℕ, ◌<◌, pos}
use Rattle.std.specs.Prelude.{slice_index_or}
use Rattle.month_maps.specs.MadeMaps.{IsAround}
use Rattle.month_maps.specs.StoredMap.{interval_at}
use Rattle.month_maps.proofs.starting.write_free.Given as goal

abbrev pub invariant-loop-row : goal.invariant-loop-row
invariant-loop-row l =
    (row : ℕ) → row < l.row → IsAround 16 (slice_index_or l.origin row (pos 0)) (interval_at l.free row)
