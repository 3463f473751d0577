pub mod NearNumbers
pub mod CellSteps
pub mod StartNumbers
pub mod KeptRuns
pub mod Enclosed
pub mod WrittenDates
