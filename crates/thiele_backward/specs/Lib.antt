pub mod Costs
pub mod Dates
pub mod MonthMaps
pub mod MonthRuns
pub mod Results
pub mod StretchMaps
pub mod Sweeps
