use Rattle.std.proofs.Common.{◌≡◌, ◌+◌}
use Rattle.month_maps.specs.MadeMaps.{HoldsColumns}
use Rattle.month_maps.proofs.starting.write_columns.Given as goal

abbrev pub invariant-loop-col : goal.invariant-loop-col
invariant-loop-col g l = (l.degree ≡ 8) × HoldsColumns l.sys l.col l.numbers × (l.steps ≡ l.initial.steps + l.col)
    × (l.work ≡ l.initial.work)
