use Rattle.std.proofs.Common.{length, drop, ◌-◌}
use Rattle.taylor_step.proofs.ListedNumbers.{IsFilledWith}
use Rattle.month_maps.proofs.tests.filled.Given as goal

abbrev pub invariant-loop-k : goal.invariant-loop-k
invariant-loop-k l = IsFilledWith l.dim 0 l.links (drop (length l.entries - l.k) l.entries) l.system
