pub mod FittingNumbers
pub mod TameCells
pub mod SparseCells
