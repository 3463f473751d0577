use Rattle.map_laws.proofs.CellOfSystem.{columns_are_differences, taylor_values_are_affine}
use Rattle.map_laws.proofs.cell_laws_of_maps.cell_maps_hold_taylor_values.Goals as goal

pub returns-clause-columns : goal.returns-clause-columns
returns-clause-columns c = columns_are_differences

pub returns-clause-values : goal.returns-clause-values
returns-clause-values c = taylor_values_are_affine
