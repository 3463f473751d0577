pub mod CellRuns
pub mod MomentLaws
pub mod SecondMomentLaws
pub mod RunsFrom
