pub mod CurveCells
pub mod FoundTransitions
pub mod ProductCells
pub mod ProductCurves
pub mod ProductPayments
pub mod ScaleRoom
pub mod CellsWithin
