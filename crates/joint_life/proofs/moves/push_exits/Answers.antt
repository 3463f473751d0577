use Rattle.joint_life.proofs.MoveLists.{exit_more}
use Rattle.joint_life.proofs.moves.push_exits.Goals as goal

pub loop-i-preserved : goal.loop-i-preserved
loop-i-preserved c = rw c.in_ok-push.ensures.items (exit_more c.args.life c.args.pair c.args.moves.now.items
    c.loop-i.moves.items c.args.exits.now c.loop-i.i _ c.loop-i-test.true c.loop-i.invariant)
