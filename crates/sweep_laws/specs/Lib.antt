pub mod PairSweepLaws
pub mod ScaledSteps
pub mod SweepLaws
