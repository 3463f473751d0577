use Rattle.std.proofs.Common.{◌≡◌, ◌*◌, ◌^◌, ◌≤◌}
use Rattle.std.specs.Prelude.{unsigned_abs}
use Rattle.cell_coeffs.specs.Products.{products_to, sizes_to}
use Rattle.cell_coeffs.proofs.twice.paid_twice.Given as goal

abbrev pub invariant-loop-a : goal.invariant-loop-a
invariant-loop-a l = record {
  value : l.total ≡ products_to l.paid l.sum l.m l.a;
  size : unsigned_abs l.total ≤ sizes_to l.paid l.a * 2 ^ 64;
}
