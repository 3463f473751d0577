use Rattle.std.proofs.Common.{◌≡◌, ℕ, pos, slice_index_or, ap, ◌∙◌, rules, FitsSigned, arith, to_z, of_z}
use Rattle.std.specs.Prelude.{neg_ℤ, ◌-ℤ◌}
use Rattle.std.specs.Int.{w128}
use Rattle.std.proofs.lemmas.Int.{to_z-of_z}
use Rattle.cell_coeffs.proofs.Products.{opposite_fits, minus_is}
use Rattle.cell_coeffs.specs.Near.{nearest_of}
use Rattle.cell_coeffs.proofs.Writes.{writes_more}
use Rattle.cell_coeffs.proofs.write.put_diagonal.Goals as goal

pub loop-m-preserved : goal.loop-m-preserved
loop-m-preserved c =
    let number_fits : FitsSigned w128 (slice_index_or c.args.numbers.now c.loop-m.m (pos 0)) = search rules in
    let turned_fits : FitsSigned w128 (neg_ℤ (slice_index_or c.args.numbers.now c.loop-m.m (pos 0))) =
    opposite_fits (slice_index_or c.args.numbers.now c.loop-m.m (pos 0))
    (c.requires.small c.loop-m.m (omega (arith, c.loop-m-test.true))) in
    let nearest_fits : FitsSigned w128 c.nearest.result = search rules in
    let set = simp to_z-of_z at c.set.ensures in
    let minus_fits : FitsSigned w128 (pos 0 -ℤ slice_index_or c.args.numbers.now c.loop-m.m (pos 0)) =
    rw minus_is turned_fits in
    let turned : to_z w128 (of_z w128 (pos 0 -ℤ to_z w128
    (of_z w128 (slice_index_or c.args.numbers.now c.loop-m.m (pos 0)))))
    ≡ neg_ℤ (slice_index_or c.args.numbers.now c.loop-m.m (pos 0)) =
    simp to_z-of_z (minus_is (slice_index_or c.args.numbers.now c.loop-m.m (pos 0))) in
    writes_more c.args.out.now c.loop-m.out c.set.new.self c.args.row c.args.row c.loop-m.m
    (λ (m : ℕ). nearest_of (neg_ℤ (slice_index_or c.args.numbers.now m (pos 0))))
    c.nearest.result c.loop-m.invariant (c.nearest.ensures.value ∙ ap nearest_of turned) set
