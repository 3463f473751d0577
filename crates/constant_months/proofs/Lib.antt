pub mod FirstNumbers
pub mod MonthSystems
pub mod MonthTurns
pub mod SameCells
pub mod StepSums
