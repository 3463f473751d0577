use Rattle.std.proofs.Common.{ℕ, pos, slice_index_or, rules, FitsSigned}
use Rattle.std.specs.Int.{w128}
use Rattle.std.proofs.lemmas.Int.{to_z-of_z}
use Rattle.linear_system.specs.StoredSystem.{dim_of}
use Rattle.cell_coeffs.specs.Cut.{cut_of}
use Rattle.cell_coeffs.proofs.Writes.{writes_more}
use Rattle.cell_coeffs.proofs.pair_write.put_second_free.Goals as goal

pub loop-m-preserved : goal.loop-m-preserved
loop-m-preserved c =
    let number_fits : FitsSigned w128 (slice_index_or c.args.numbers.now c.loop-m.m (pos 0)) = search rules in
    let cut_fits : FitsSigned w128 c.cut.result = search rules in
    let set = rw c.loop-m.invariant.places.dim at (simp to_z-of_z at c.set_free.ensures) in
    let value = simp to_z-of_z at c.cut.ensures.value in
    writes_more c.args.out.now c.loop-m.out c.set_free.new.self c.args.row (dim_of c.args.out.now) c.loop-m.m
    (λ (m : ℕ). cut_of (slice_index_or c.args.numbers.now m (pos 0)))
    c.cut.result c.loop-m.invariant value set
