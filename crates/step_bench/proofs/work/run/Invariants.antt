use Rattle.std.proofs.Common.{◌≡◌}
use Rattle.linear_system.specs.StoredSystem.{dim_of}
use Rattle.step_bench.proofs.work.run.Given as goal

abbrev pub invariant-loop-round : goal.invariant-loop-round
invariant-loop-round g l = record { work : l.work ≡ dim_of l.system; count : l.steps ≡ l.round }
