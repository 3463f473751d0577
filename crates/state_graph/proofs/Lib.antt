pub mod ExitRows
pub mod ExitSteps
pub mod NamedStates
