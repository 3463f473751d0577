pub mod Costs
pub mod MonthSystems
pub mod MonthTurns
