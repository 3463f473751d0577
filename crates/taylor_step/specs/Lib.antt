pub mod CanStep
pub mod ConstantSteps
pub mod Enclosures
pub mod ListedNumbers
pub mod RoundedRun
pub mod Stops
pub mod Strips
pub mod WholeRun
