use Rattle.std.proofs.Common.{ℕ, pos, slice_index_or}
use Rattle.cell_coeffs.specs.Near.{nearest_of}
use Rattle.cell_coeffs.specs.Writing.{WritesNumbers}
use Rattle.cell_coeffs.proofs.write.put.Given as goal

abbrev pub invariant-loop-m : goal.invariant-loop-m
invariant-loop-m l =
    WritesNumbers l.initial.out l.out l.row l.col l.m (λ (m : ℕ). nearest_of (slice_index_or l.numbers m (pos 0)))
