use Rattle.std.proofs.Common.{take}
use Rattle.portfolio_run.specs.Sums.{AreSums}
use Rattle.portfolio_run.proofs.sums.sums_of.Given as goal

abbrev pub invariant-loop-i : goal.invariant-loop-i
invariant-loop-i l = AreSums l.valued (take l.i l.policies) l.groups l.sums.items
