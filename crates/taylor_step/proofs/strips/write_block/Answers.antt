use Rattle.std.proofs.Common.{rules, pos, FitsSigned, get_or, sym}
use Rattle.std.proofs.lemmas.Int.{to_z-of_z}
use mir.Syntax.{w64}
use Rattle.taylor_step.proofs.Blocks.{put_at-nothing, one_more_put}
use Rattle.taylor_step.proofs.strips.write_block.Goals as goal

pub loop-p-init : goal.loop-p-init
loop-p-init c = sym (put_at-nothing c.args.strip.now c.args.at)

pub loop-p-preserved : goal.loop-p-preserved
loop-p-preserved c =
    let f : FitsSigned w64 (get_or c.args.newest.now (get_or c.args.columns.now c.loop-p.p 0) (pos 0)) =
    search rules in
    simp to_z-of_z (one_more_put c.args.columns.now (λ j. get_or c.args.newest.now j (pos 0)) c.loop-p.p
    c.args.at c.args.strip.now c.loop-p.strip c.loop-p-test.true c.requires.room c.loop-p.invariant)
