use Rattle.std.proofs.Common.{arith, pos}
use Rattle.taylor_step.specs.ListedNumbers.{can_hold}
use Rattle.taylor_step.proofs.ListedNumbers.{one_held, one_filled}
use Rattle.month_maps.proofs.tests.filled.Goals as goal

pub put-requires-clause-held : goal.put-requires-clause-held
put-requires-clause-held c =
    one_held (can_hold c.args.dim 0 c.args.links.now) c.args.entries.now _ (0, 0, 0, pos 0)
    c.requires.held (omega arith)

pub loop-k-preserved : goal.loop-k-preserved
loop-k-preserved c =
    one_filled c.args.dim 0 c.args.links.now c.args.entries.now c.loop-k.k (0, 0, 0, pos 0)
    c.loop-k.system c.put.new.system
    c.loop-k-test.true c.loop-k.invariant c.put.ensures.made c.put.ensures.set
