use Rattle.map_laws.proofs.CellMaps.{cell_maps_are_narrow}
use Rattle.map_laws.proofs.cell_laws_of_maps.cell_maps_start_narrow.Goals as goal

pub returns : goal.returns
returns c = cell_maps_are_narrow
