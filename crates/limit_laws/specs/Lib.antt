pub mod CellTails
pub mod Defect
pub mod Modulus
pub mod SmallCell
pub mod WrittenEquations
pub mod YearOfModuli
