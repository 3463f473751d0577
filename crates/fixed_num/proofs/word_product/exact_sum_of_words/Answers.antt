use Rattle.std.proofs.Common.{pos, get_or, to_z, FitsSigned, rules}
use Rattle.std.specs.Int.{w64, w128}
use Rattle.std.proofs.lemmas.Int.{to_z-of_z}
use Rattle.fixed_num.proofs.Terms.{IsNextTerm, next_term}
use Rattle.fixed_num.proofs.word_product.exact_sum_of_words.Goals as goal

next : (c : goal.After-from-in-loop-i) → IsNextTerm c.args.a.now c.args.v.now c.loop-i.i
    (to_z w128 c.loop-i.sum-bits) c.from.result c.from-in-loop-i.result
next c =
    let number_fits : FitsSigned w64 (get_or c.args.a.now c.loop-i.i (pos 0)) = search rules in
    let factor_fits : FitsSigned w64 (get_or c.args.v.now c.loop-i.i (pos 0)) = search rules in
    next_term c.args.a.now c.args.v.now c.loop-i.i _ _ _ c.loop-i-test.true c.requires.lengths c.loop-i.invariant
    c.requires.fits (simp to_z-of_z at c.from.ensures) (simp to_z-of_z at c.from-in-loop-i.ensures)

pub overflow_add-sum : goal.overflow_add-sum
overflow_add-sum c =
    let number_fits : FitsSigned w128 c.from.result = search rules in
    let factor_fits : FitsSigned w128 c.from-in-loop-i.result = search rules in
    let term = next c in
    let product_fits = term.product_fits in
    simp to_z-of_z term.sum_fits

pub loop-i-preserved : goal.loop-i-preserved
loop-i-preserved c =
    let number_fits : FitsSigned w128 c.from.result = search rules in
    let factor_fits : FitsSigned w128 c.from-in-loop-i.result = search rules in
    let term = next c in
    let product_fits = term.product_fits in
    let sum_fits = term.sum_fits in
    simp to_z-of_z term.more
