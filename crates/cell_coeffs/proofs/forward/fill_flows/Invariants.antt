use Rattle.std.proofs.Common.{ℕ, ◌+◌, ◌*◌, ◌^◌, ◌≤◌, pos, slice_index_or}
use Rattle.std.specs.Prelude.{unsigned_abs}
use Rattle.frac_laws.specs.Sums.{sum_to}
use Rattle.model_specs.specs.Systems.{intensity_at}
use Rattle.product_cells.specs.EachCell.{forward_cell}
use Rattle.cell_coeffs.specs.Rows.{AddsNear}
use Rattle.cell_coeffs.specs.ForwardColumns.{HasFlows, KeepsColumns, IsMadeForward}
use Rattle.cell_coeffs.proofs.forward.fill_flows.Given as goal

abbrev pub invariant-loop-to : goal.invariant-loop-to
invariant-loop-to l =
    let curves = forward_cell l.p l.month l.cell in
    record {
      leaving : AddsNear (2 * l.to) (λ (m : ℕ). sum_to l.to (λ j. intensity_at curves l.state j m)) l.initial.leaving
          l.leaving;
      few : (m : ℕ) → unsigned_abs (slice_index_or l.leaving m (pos 0)) ≤ (l.to + 1) * 2 ^ 64;
      flows : HasFlows curves l.state l.to l.out;
      columns : KeepsColumns l.initial.out l.out l.state;
      made : IsMadeForward l.p l.out;
    }
