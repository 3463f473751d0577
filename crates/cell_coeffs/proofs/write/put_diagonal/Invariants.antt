use Rattle.std.proofs.Common.{ℕ, pos, slice_index_or}
use Rattle.std.specs.Prelude.{neg_ℤ}
use Rattle.cell_coeffs.specs.Near.{nearest_of}
use Rattle.cell_coeffs.specs.Writing.{WritesNumbers}
use Rattle.cell_coeffs.proofs.write.put_diagonal.Given as goal

abbrev pub invariant-loop-m : goal.invariant-loop-m
invariant-loop-m l =
    WritesNumbers l.initial.out l.out l.row l.row l.m
    (λ (m : ℕ). nearest_of (neg_ℤ (slice_index_or l.numbers m (pos 0))))
