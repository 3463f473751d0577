use Rattle.step_bench.proofs.SmallSteps.{small_can_step}
use Rattle.step_bench.proofs.work.run.Goals as goal

pub step-degree-requires-clause-can : goal.step-degree-requires-clause-can
step-degree-requires-clause-can g c =
    small_can_step c.args.system.now c.degree-degree.ensures.system c.requires.system _ c.write_start.ensures
