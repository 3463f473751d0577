pub mod Filling
pub mod SmallNorms
pub mod SmallSteps
