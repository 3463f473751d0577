use Rattle.std.proofs.Common.{ℕ, ◌+◌, ◌*◌, ◌^◌, ◌≤◌, pos, slice_index_or}
use Rattle.std.specs.Prelude.{unsigned_abs}
use Rattle.frac_laws.specs.Fraction.{◌*ℚ◌}
use Rattle.frac_laws.specs.Sums.{sum_to}
use Rattle.model_specs.specs.Systems.{intensity_at, first_payment_at}
use Rattle.cell_bounds.specs.ScaledSystems.{scaling}
use Rattle.cell_coeffs.specs.Rows.{cell_at, AddsNear, HasFirstPlaces}
use Rattle.cell_coeffs.specs.StoredRows.{HasLinks, KeepsRows}
use Rattle.cell_coeffs.proofs.row.fill_links.Given as goal

abbrev pub invariant-loop-to : goal.invariant-loop-to
invariant-loop-to l =
    let cell = cell_at l.p l.at.which l.at.month l.at.cell in
    record {
      leaving : AddsNear (2 * l.to) (λ (m : ℕ). sum_to l.to (λ j. intensity_at cell l.state j m)) l.initial.leaving
          l.leaving;
      free : AddsNear (5 * l.to) (λ (m : ℕ). scaling l.at.g *ℚ sum_to l.to (λ j. first_payment_at cell l.state j m))
          l.initial.free l.free;
      few_leaving : (m : ℕ) → unsigned_abs (slice_index_or l.leaving m (pos 0)) ≤ (l.to + 1) * 2 ^ 64;
      few_free : (m : ℕ) → unsigned_abs (slice_index_or l.free m (pos 0)) ≤ (l.to + 1) * 2 ^ 64;
      links : HasLinks cell l.state l.to l.out;
      rows : KeepsRows l.initial.out l.out l.state;
      made : HasFirstPlaces l.p l.out;
    }
