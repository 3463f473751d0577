pub mod ProbabilityLaws
pub mod ProbabilitiesFrom
