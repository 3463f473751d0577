use Rattle.joint_life.proofs.MarginalRuns.{marginals_are_single_lives}
use Rattle.joint_life.proofs.laws.marginals_are_single_lives.Goals as goal

pub returns : goal.returns
returns c = marginals_are_single_lives
