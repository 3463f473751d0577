pub mod BrokenRules
pub mod Directions
pub mod PiecewiseCurves
pub mod Records
pub mod StartMonths
