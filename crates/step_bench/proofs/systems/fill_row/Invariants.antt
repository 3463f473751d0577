use Rattle.step_bench.proofs.Filling.{KeepsSmall}
use Rattle.step_bench.proofs.systems.fill_row.Given as goal

abbrev pub invariant-loop-m : goal.invariant-loop-m
invariant-loop-m l = KeepsSmall l.initial.system l.system
