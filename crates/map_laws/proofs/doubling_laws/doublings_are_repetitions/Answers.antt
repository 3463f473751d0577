use Rattle.map_laws.proofs.CellMaps.{twice_is_applied_twice, doubled_maps_grow}
use Rattle.map_laws.proofs.doubling_laws.doublings_are_repetitions.Goals as goal

pub returns-clause-twice : goal.returns-clause-twice
returns-clause-twice c = twice_is_applied_twice

pub returns-clause-growth : goal.returns-clause-growth
returns-clause-growth c = doubled_maps_grow
