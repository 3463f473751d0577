use Rattle.std.proofs.Common.{pos, get_or, to_z, FitsSigned, rules, sym}
use Rattle.std.specs.Int.{w64, w128}
use Rattle.std.proofs.lemmas.Int.{to_z-of_z}
use Rattle.fixed_num.specs.Products.{items_at}
use Rattle.fixed_num.proofs.Terms.{IsNextTerm, next_term, item_at, length-items_at}
use Rattle.fixed_num.proofs.word_product.products_at.Goals as goal

next : (c : goal.After-product-1) → IsNextTerm c.args.a.now (items_at c.args.v.now c.args.places.now) c.loop-i.i
    (to_z w128 c.loop-i.sum-bits) c.from.result
    (get_or c.args.v.now (get_or c.args.places.now c.loop-i.i 0) (pos 0))
next c =
    let number_fits : FitsSigned w64 (get_or c.args.a.now c.loop-i.i (pos 0)) = search rules in
    next_term c.args.a.now (items_at c.args.v.now c.args.places.now) c.loop-i.i _ _ _ c.loop-i-test.true
    (length-items_at c.args.v.now c.args.places.now _ c.requires.lengths) c.loop-i.invariant
    c.requires.fits (simp to_z-of_z at c.from.ensures)
    (sym (item_at c.args.v.now c.args.places.now c.loop-i.i _ c.loop-i-test.true c.requires.lengths))

pub overflow_mul-product : goal.overflow_mul-product
overflow_mul-product c =
    let number_fits : FitsSigned w128 c.from.result = search rules in
    let factor_fits : FitsSigned w128 (get_or c.args.v.now (get_or c.args.places.now c.loop-i.i 0) (pos 0)) =
    search rules in
    simp to_z-of_z (next c).product_fits

pub overflow_add-sum : goal.overflow_add-sum
overflow_add-sum c =
    let number_fits : FitsSigned w128 c.from.result = search rules in
    let factor_fits : FitsSigned w128 (get_or c.args.v.now (get_or c.args.places.now c.loop-i.i 0) (pos 0)) =
    search rules in
    let term = next c in
    let product_fits = term.product_fits in
    simp to_z-of_z term.sum_fits

pub loop-i-preserved : goal.loop-i-preserved
loop-i-preserved c =
    let number_fits : FitsSigned w128 c.from.result = search rules in
    let factor_fits : FitsSigned w128 (get_or c.args.v.now (get_or c.args.places.now c.loop-i.i 0) (pos 0)) =
    search rules in
    let term = next c in
    let product_fits = term.product_fits in
    let sum_fits = term.sum_fits in
    simp to_z-of_z term.more
