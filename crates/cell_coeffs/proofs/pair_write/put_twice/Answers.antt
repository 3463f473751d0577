use Rattle.std.proofs.Common.{ℕ, ◌^◌, ◌≤◌, pos, slice_index_or, arith, rules, FitsSigned}
use Rattle.std.specs.Prelude.{◌*ℤ◌, ℤ, unsigned_abs}
use Rattle.std.specs.Int.{w128}
use Rattle.std.proofs.lemmas.Int.{ints, to_z-of_z, fits_signed_from_abs}
use Rattle.cell_coeffs.specs.Cut.{cut_of}
use Rattle.cell_coeffs.proofs.Writes.{writes_more}
use Rattle.cell_coeffs.proofs.pair_write.put_twice.Goals as goal

twice_size : (z : ℤ) → unsigned_abs z ≤ 2 ^ 64 → unsigned_abs (pos 2 *ℤ z) ≤ 2 ^ 65
twice_size z small = omega (arith, ints)

twice_fits : (z : ℤ) → unsigned_abs z ≤ 2 ^ 64 → FitsSigned w128 (pos 2 *ℤ z)
twice_fits z small = fits_signed_from_abs w128 (pos 2 *ℤ z) (omega (arith, twice_size z small))

pub loop-m-preserved : goal.loop-m-preserved
loop-m-preserved c =
    let number_fits : FitsSigned w128 (slice_index_or c.args.numbers.now c.loop-m.m (pos 0)) = search rules in
    let twice = twice_fits (slice_index_or c.args.numbers.now c.loop-m.m (pos 0))
    (c.requires.small c.loop-m.m c.loop-m-test.true) in
    let cut_fits : FitsSigned w128 c.cut.result = search rules in
    let set = simp to_z-of_z at c.set.ensures in
    let value = simp to_z-of_z at c.cut.ensures.value in
    writes_more c.args.out.now c.loop-m.out c.set.new.self c.args.row c.args.col c.loop-m.m
    (λ (m : ℕ). cut_of (pos 2 *ℤ slice_index_or c.args.numbers.now m (pos 0)))
    c.cut.result c.loop-m.invariant value set
