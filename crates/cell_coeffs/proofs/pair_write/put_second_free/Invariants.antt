use Rattle.std.proofs.Common.{ℕ, pos, slice_index_or}
use Rattle.linear_system.specs.StoredSystem.{dim_of}
use Rattle.cell_coeffs.specs.Cut.{cut_of}
use Rattle.cell_coeffs.specs.Writing.{WritesNumbers}
use Rattle.cell_coeffs.proofs.pair_write.put_second_free.Given as goal

abbrev pub invariant-loop-m : goal.invariant-loop-m
invariant-loop-m l = WritesNumbers l.initial.out l.out l.row (dim_of l.initial.out) l.m
    (λ (m : ℕ). cut_of (slice_index_or l.numbers m (pos 0)))
