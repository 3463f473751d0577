use Rattle.taylor_step.proofs.SampleSteps.{still_can_step}
use Rattle.taylor_step.proofs.tests.nothing_changes_without_numbers.Goals as goal

pub one_step-requires-clause-can : goal.one_step-requires-clause-can
one_step-requires-clause-can g c = still_can_step c.in_ok-system.system c.in_ok-system.ensures.dim
    c.in_ok-system.ensures.numbers
