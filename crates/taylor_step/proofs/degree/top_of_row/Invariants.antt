use Rattle.std.proofs.Common.{◌-◌, length}
use Rattle.taylor_step.specs.Stops.{IsZeroFrom}
use Rattle.taylor_step.proofs.degree.top_of_row.Given as goal

abbrev pub invariant-loop-k : goal.invariant-loop-k
invariant-loop-k l = IsZeroFrom l.numbers (length l.numbers - l.k)
