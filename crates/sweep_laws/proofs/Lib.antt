pub mod PairSweeps
pub mod ScaledSteps
pub mod Sweeps
