use Rattle.std.proofs.Common.{ℕ, pos, slice_index_or, rules, FitsSigned}
use Rattle.std.specs.Int.{w128}
use Rattle.std.proofs.lemmas.Int.{to_z-of_z}
use Rattle.cell_coeffs.specs.Near.{nearest_of}
use Rattle.cell_coeffs.proofs.Writes.{writes_more}
use Rattle.cell_coeffs.proofs.write.put.Goals as goal

pub loop-m-preserved : goal.loop-m-preserved
loop-m-preserved c =
    let number_fits : FitsSigned w128 (slice_index_or c.args.numbers.now c.loop-m.m (pos 0)) = search rules in
    let nearest_fits : FitsSigned w128 c.nearest.result = search rules in
    let set = simp to_z-of_z at c.set.ensures in
    let value = simp to_z-of_z at c.nearest.ensures.value in
    writes_more c.args.out.now c.loop-m.out c.set.new.self c.args.row c.args.col c.loop-m.m
    (λ (m : ℕ). nearest_of (slice_index_or c.args.numbers.now m (pos 0)))
    c.nearest.result c.loop-m.invariant value set
