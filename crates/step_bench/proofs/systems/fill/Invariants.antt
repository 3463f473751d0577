use Rattle.step_bench.proofs.Filling.{KeepsSmall}
use Rattle.step_bench.proofs.systems.fill.Given as goal

abbrev pub invariant-loop-row : goal.invariant-loop-row
invariant-loop-row l = KeepsSmall l.initial.system l.system
