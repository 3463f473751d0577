use Rattle.std.proofs.Common.{ℕ, ◌+◌, ◌*◌, ◌^◌, ◌≤◌, pos, length, slice_index_or}
use Rattle.std.specs.Prelude.{unsigned_abs}
use Rattle.frac_laws.specs.Fraction.{◌*ℚ◌}
use Rattle.frac_laws.specs.Sums.{sum_to}
use Rattle.model_specs.specs.Systems.{intensity_at, second_payment_at}
use Rattle.cell_bounds.specs.ScaledSystems.{scaling}
use Rattle.cell_coeffs.specs.PairRows.{IsMadeForMoments, HasSecondLinks}
use Rattle.cell_coeffs.specs.Rows.{cell_at, AddsNear, AddsNearTo}
use Rattle.cell_coeffs.specs.StoredRows.{KeepsRows}
use Rattle.cell_coeffs.proofs.pair_row.fill_second_links.Given as goal

abbrev pub invariant-loop-to : goal.invariant-loop-to
invariant-loop-to l =
    let cell = cell_at l.p l.at.which l.at.month l.at.cell in
    record {
      leaving : AddsNear (2 * l.to) (λ (m : ℕ). sum_to l.to (λ j. intensity_at cell l.state j m)) l.initial.leaving
          l.leaving;
      free : AddsNearTo 12 (9 * l.to) (λ (m : ℕ). scaling l.at.g *ℚ scaling l.at.g
          *ℚ sum_to l.to (λ j. second_payment_at cell l.state j m)) l.initial.free l.free;
      few_leaving : (m : ℕ) → unsigned_abs (slice_index_or l.leaving m (pos 0)) ≤ 2 ^ 65 + l.to * 2 ^ 64;
      few_free : (m : ℕ) → unsigned_abs (slice_index_or l.free m (pos 0)) ≤ 2 ^ 65 + l.to * 2 ^ 64;
      links : HasSecondLinks cell (scaling l.at.g) l.state l.to l.out;
      rows : KeepsRows l.initial.out l.out (length l.p.states + l.state);
      made : IsMadeForMoments l.p l.out;
    }
