use Rattle.taylor_step.proofs.Turns.{history_start}
use Rattle.taylor_step.proofs.strips.begin.Goals as goal
use Rattle.taylor_step.specs.Strips.{contents}

pub returns-clause-history : goal.returns-clause-history
returns-clause-history c = history_start c.args.sys.now c.args.mid.now (contents c.args.strips.now)
    (contents c.write_zero_blocks.new.strips) c.degree-degree.ensures.system c.requires.room
    c.write_zero_blocks.ensures.blocks
