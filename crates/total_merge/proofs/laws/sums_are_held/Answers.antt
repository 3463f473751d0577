use Rattle.total_merge.proofs.SumLaws.{sums_are_held}
use Rattle.total_merge.proofs.laws.sums_are_held.Goals as goal

pub returns : goal.returns
returns c = sums_are_held
