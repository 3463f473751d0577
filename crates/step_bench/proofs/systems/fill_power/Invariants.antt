use Rattle.step_bench.proofs.Filling.{KeepsSmall}
use Rattle.step_bench.proofs.systems.fill_power.Given as goal

abbrev pub invariant-loop-place : goal.invariant-loop-place
invariant-loop-place l = KeepsSmall l.initial.system l.system
