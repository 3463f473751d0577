use Rattle.month_maps.proofs.SampleCell.{sample_can_make}
use Rattle.month_maps.proofs.tests.a_month_of_two_states.Goals as goal

pub made-requires-clause-can : goal.made-requires-clause-can
made-requires-clause-can g c = sample_can_make c.in_ok-system.system c.in_ok-system.ensures.dim
    c.in_ok-system.ensures.degree c.in_ok-system.ensures.numbers
