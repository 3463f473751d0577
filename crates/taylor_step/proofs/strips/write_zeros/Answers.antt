use Rattle.std.proofs.Common.{sym, arith, ◌+◌, ◌<◌, length}
use Rattle.taylor_step.proofs.Blocks.{put_at-nothing, one_more_zero}
use Rattle.taylor_step.proofs.strips.write_zeros.Goals as goal

pub loop-p-init : goal.loop-p-init
loop-p-init c = sym (put_at-nothing c.args.strip.now c.args.at)

pub loop-p-preserved : goal.loop-p-preserved
loop-p-preserved c = let h : c.args.at + c.loop-p.p < length c.args.strip.now =
    omega arith in one_more_zero c.args.strip.now c.loop-p.strip c.args.at c.loop-p.p h c.loop-p.invariant
