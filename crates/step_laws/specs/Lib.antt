pub mod RoundedRuns
pub mod Samples
pub mod StandsFor
pub mod StepLaws
pub mod StoredSteps
