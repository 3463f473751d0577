pub mod CellPolynomials
pub mod FarWeights
pub mod GridReserves
pub mod GridRuns
pub mod MonthParts
