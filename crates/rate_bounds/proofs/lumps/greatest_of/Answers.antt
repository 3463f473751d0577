use Rattle.std.proofs.Common.{pos, get_or, FitsSigned, rules}
use Rattle.std.specs.Int.{w64}
use Rattle.std.proofs.lemmas.Int.{to_z-of_z}
use Rattle.rate_bounds.proofs.LumpSteps.{greatest_of_more}
use Rattle.rate_bounds.proofs.lumps.greatest_of.Goals as goal

pub loop-amount-preserved : goal.loop-amount-preserved
loop-amount-preserved c =
    let wide : FitsSigned w64 (get_or c.args.lumps.now c.loop-amount.amount-index (0, pos 0)).1 = search rules in
    greatest_of_more c.args.lumps.now c.loop-amount.amount-index (0, pos 0) c.loop-amount.most c.unsigned_abs.result
    c.max-most.result c.loop-amount-test.true c.loop-amount.invariant (simp to_z-of_z at c.unsigned_abs.ensures.value)
    c.max-most.ensures
