use Rattle.month_maps.specs.MadeMaps.{IsMadeAfter}
use Rattle.month_maps.proofs.map.MonthMap.make.Given as goal

abbrev pub invariant-loop-doubling : goal.invariant-loop-doubling
invariant-loop-doubling g l = IsMadeAfter l._doubling l.sys l.map
