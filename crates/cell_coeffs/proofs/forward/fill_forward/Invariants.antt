use Rattle.std.proofs.Common.{◌≡◌, ℕ, ◌<◌, ◌≤◌, pos}
use Rattle.linear_system.specs.StoredSystem.{stored_number}
use Rattle.linear_system.specs.Setting.{HaveSamePlaces}
use Rattle.product_cells.specs.EachCell.{forward_cell}
use Rattle.cell_coeffs.specs.ForwardColumns.{IsStoredColumn, IsMadeForward}
use Rattle.cell_coeffs.proofs.forward.fill_forward.Given as goal

abbrev pub invariant-loop-state : goal.invariant-loop-state
invariant-loop-state l = record {
  done : (i : ℕ) → i < l.state → IsStoredColumn (forward_cell l.p l.month l.cell) i l.out;
  none : (j c m : ℕ) → l.state ≤ c → stored_number l.out j c m ≡ pos 0;
  places : HaveSamePlaces l.fn.out l.out;
  made : IsMadeForward l.p l.out;
}
