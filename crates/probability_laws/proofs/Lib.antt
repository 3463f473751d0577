pub mod ForwardCells
pub mod HalfSquare
pub mod LateCoefficients
pub mod ProbabilityRuns
