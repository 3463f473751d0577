use Rattle.std.proofs.Common.{◌≡◌, ℕ, ◌+◌, ◌<◌, ◌≤◌, pos, length}
use Rattle.linear_system.specs.StoredSystem.{stored_number}
use Rattle.linear_system.specs.Setting.{HaveSamePlaces}
use Rattle.cell_bounds.specs.ScaledSystems.{scaling}
use Rattle.cell_coeffs.specs.PairRows.{IsMadeForMoments, IsStoredSecondRow}
use Rattle.cell_coeffs.specs.Rows.{cell_at}
use Rattle.cell_coeffs.proofs.pair_job.fill_second.Given as goal

abbrev pub invariant-loop-state : goal.invariant-loop-state
invariant-loop-state l = record {
  done : (i : ℕ) → i < l.state
      → IsStoredSecondRow (cell_at l.p l.at.which l.at.month l.at.cell) (scaling l.at.g) i l.out;
  first : (i c m : ℕ) → i < length l.p.states → stored_number l.out i c m ≡ stored_number l.initial.out i c m;
  none : (i c m : ℕ) → length l.p.states + l.state ≤ i → stored_number l.out i c m ≡ pos 0;
  places : HaveSamePlaces l.initial.out l.out;
  made : IsMadeForMoments l.p l.out;
}
