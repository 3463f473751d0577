pub mod AppliedRows
pub mod Columns
pub mod MadeCells
pub mod MadeMaps
pub mod RowProducts
pub mod SampleCell
pub mod Starts
pub mod WrittenRows
