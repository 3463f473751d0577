use Rattle.std.proofs.Common.{◌≡◌, ℕ, ◌<◌, ◌≤◌, pos}
use Rattle.linear_system.specs.StoredSystem.{stored_number}
use Rattle.linear_system.specs.Setting.{HaveSamePlaces}
use Rattle.cell_bounds.specs.ScaledSystems.{scaling}
use Rattle.cell_coeffs.specs.Rows.{cell_at, HasFirstPlaces}
use Rattle.cell_coeffs.specs.StoredRows.{IsStoredRow}
use Rattle.cell_coeffs.proofs.job.fill_first.Given as goal

abbrev pub invariant-loop-state : goal.invariant-loop-state
invariant-loop-state l = record {
  done : (i : ℕ) → i < l.state → IsStoredRow (cell_at l.p l.at.which l.at.month l.at.cell) (scaling l.at.g) i l.out;
  none : (i c m : ℕ) → l.state ≤ i → stored_number l.out i c m ≡ pos 0;
  places : HaveSamePlaces l.fn.out l.out;
  made : HasFirstPlaces l.p l.out;
}
