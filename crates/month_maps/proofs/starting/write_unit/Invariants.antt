use Rattle.std.proofs.Common.{◌≡◌, ℕ, ◌<◌, pos}
use Rattle.std.specs.Prelude.{slice_index_or}
use Rattle.month_maps.specs.MadeMaps.{unit_number}
use Rattle.month_maps.proofs.starting.write_unit.Given as goal

abbrev pub invariant-loop-i : goal.invariant-loop-i
invariant-loop-i l = (j : ℕ) → j < l.i → slice_index_or l.mid j (pos 0) ≡ unit_number l.place j
