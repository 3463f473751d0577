pub mod LumpSizes
pub mod MonthCells
pub mod ReserveLedger
pub mod ScaledRuns
pub mod SecondMoments
pub mod LedgerSteps
pub mod RunsFrom
