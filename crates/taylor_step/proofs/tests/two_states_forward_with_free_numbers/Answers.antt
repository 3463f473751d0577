use Rattle.taylor_step.proofs.SampleSteps.{forward_can_step}
use Rattle.taylor_step.proofs.tests.two_states_forward_with_free_numbers.Goals as goal

pub one_step-requires-clause-can : goal.one_step-requires-clause-can
one_step-requires-clause-can g c = forward_can_step c.in_ok-system.system c.in_ok-system.ensures.dim
    c.in_ok-system.ensures.numbers
