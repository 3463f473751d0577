pub mod Dates
pub mod MonthRuns
pub mod Results
pub mod Sweeps
