use Rattle.map_laws.proofs.MonthOfCells.{months_stay_within_their_radius}
use Rattle.map_laws.proofs.Radii.{month_maps_stay_within_their_radius}
use Rattle.map_laws.proofs.month_laws.months_stay_within_their_radius.Goals as goal

pub returns-clause-maps : goal.returns-clause-maps
returns-clause-maps c = month_maps_stay_within_their_radius

pub returns-clause-cells : goal.returns-clause-cells
returns-clause-cells c = months_stay_within_their_radius
