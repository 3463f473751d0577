use Rattle.constant_months.proofs.MonthSystems.{cells_are_alike, stretches_keep_their_system}
use Rattle.constant_months.proofs.MonthSystems.{month_systems_are_constant, constant_months_are_constant_cells}
use Rattle.constant_months.proofs.month_systems.constant_months_are_one_system.Goals as goal

pub returns-clause-cells : goal.returns-clause-cells
returns-clause-cells c = cells_are_alike

pub returns-clause-stretches : goal.returns-clause-stretches
returns-clause-stretches c = stretches_keep_their_system

pub returns-clause-constant : goal.returns-clause-constant
returns-clause-constant c = month_systems_are_constant

pub returns-clause-stored : goal.returns-clause-stored
returns-clause-stored c = constant_months_are_constant_cells
