use Rattle.taylor_step.proofs.SampleSteps.{pair_can_step}
use Rattle.taylor_step.proofs.tests.a_pair_with_a_coupling.Goals as goal

pub one_step-requires-clause-can : goal.one_step-requires-clause-can
one_step-requires-clause-can g c = pair_can_step c.in_ok-system.system c.in_ok-system.ensures.dim
    c.in_ok-system.ensures.numbers
