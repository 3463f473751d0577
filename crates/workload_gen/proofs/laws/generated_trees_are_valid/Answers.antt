use Rattle.workload_gen.proofs.Valid.{generated_valid}
use Rattle.workload_gen.proofs.laws.generated_trees_are_valid.Goals as goal

pub returns : goal.returns
returns c = generated_valid
