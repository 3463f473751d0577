use Rattle.total_merge.proofs.HeldTotals.{totals_are_held}
use Rattle.total_merge.proofs.laws.totals_are_held.Goals as goal

pub returns : goal.returns
returns c = totals_are_held
