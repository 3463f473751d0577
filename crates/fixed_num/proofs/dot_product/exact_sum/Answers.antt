use Rattle.std.proofs.Common.{pos, get_or, to_z, FitsSigned, rules}
use Rattle.std.specs.Int.{w128}
use Rattle.std.proofs.lemmas.Int.{to_z-of_z}
use Rattle.fixed_num.proofs.Terms.{partial_sum-more, partial_sum_fits, term_fits}
use Rattle.fixed_num.proofs.dot_product.exact_sum.Goals as goal

pub loop-i-preserved : goal.loop-i-preserved
loop-i-preserved c =
    let a = c.args.a.now in
    let v = c.args.v.now in
    let i = c.loop-i.i in
    let sum = to_z w128 c.loop-i.sum-bits in
    let number_fits : FitsSigned w128 (get_or c.args.a.now c.loop-i.i (pos 0)) = search rules in
    let factor_fits : FitsSigned w128 (get_or c.args.v.now c.loop-i.i (pos 0)) = search rules in
    let inside = c.loop-i-test.true in
    let lengths = c.requires.lengths in
    let product_fits = term_fits a v i sum inside lengths c.loop-i.invariant c.requires.fits in
    let more = partial_sum-more a v i sum inside lengths c.loop-i.invariant in
    let sum_fits = partial_sum_fits a v _ _ more c.requires.fits in
    simp to_z-of_z more
