use Rattle.std.proofs.Common.{ℕ, pos, slice_index_or}
use Rattle.std.specs.Prelude.{◌*ℤ◌}
use Rattle.cell_coeffs.specs.Cut.{cut_of}
use Rattle.cell_coeffs.specs.Writing.{WritesNumbers}
use Rattle.cell_coeffs.proofs.pair_write.put_twice.Given as goal

abbrev pub invariant-loop-m : goal.invariant-loop-m
invariant-loop-m l = WritesNumbers l.initial.out l.out l.row l.col l.m
    (λ (m : ℕ). cut_of (pos 2 *ℤ slice_index_or l.numbers m (pos 0)))
