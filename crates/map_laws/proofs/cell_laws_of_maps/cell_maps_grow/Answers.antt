use Rattle.map_laws.proofs.CellGrowth.{cell_maps_grow}
use Rattle.map_laws.proofs.FreeSizes.{free_numbers_stay_small}
use Rattle.map_laws.proofs.cell_laws_of_maps.cell_maps_grow.Goals as goal

pub returns-clause-rows : goal.returns-clause-rows
returns-clause-rows c = cell_maps_grow

pub returns-clause-free : goal.returns-clause-free
returns-clause-free c = free_numbers_stay_small
