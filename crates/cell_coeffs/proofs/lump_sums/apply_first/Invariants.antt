use Rattle.std.proofs.Common.{◌≡◌, ℕ, ◌+◌, ◌*◌, ◌^◌, ◌≤◌, pos, length, slice_index_or}
use Rattle.std.specs.Prelude.{◌+ℤ◌, unsigned_abs}
use Rattle.cell_coeffs.specs.Lumps.{units_to}
use Rattle.cell_coeffs.proofs.lump_sums.apply_first.Given as goal

abbrev pub invariant-loop-lump : goal.invariant-loop-lump
invariant-loop-lump l = record {
  long : length l.mid ≡ length l.initial.mid;
  value : (i : ℕ) → slice_index_or l.mid i (pos 0)
      ≡ slice_index_or l.initial.mid i (pos 0) +ℤ units_to l.g l.lumps i l.lump-index;
  size : (i : ℕ) → unsigned_abs (slice_index_or l.mid i (pos 0)) ≤ 2 ^ 65 + l.lump-index * 2 ^ 64;
}
