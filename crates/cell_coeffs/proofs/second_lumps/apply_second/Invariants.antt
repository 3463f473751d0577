use Rattle.std.proofs.Common.{◌≡◌, ℕ, ◌<◌, ◌≤◌, pos, length, slice_index_or}
use Rattle.std.specs.Prelude.{◌+ℤ◌}
use Rattle.cell_coeffs.specs.SecondLumps.{amount_in, lumped_units}
use Rattle.cell_coeffs.proofs.second_lumps.apply_second.Given as goal

abbrev pub invariant-loop-state : goal.invariant-loop-state
invariant-loop-state l = record {
  long : length l.second ≡ length l.initial.second;
  done : (i : ℕ) → i < l.state → slice_index_or l.second i (pos 0)
      ≡ slice_index_or l.initial.second i (pos 0)
      +ℤ lumped_units l.g (amount_in l.lumps i) (slice_index_or l.first i (pos 0));
  kept : (i : ℕ) → l.state ≤ i → slice_index_or l.second i (pos 0) ≡ slice_index_or l.initial.second i (pos 0);
}
