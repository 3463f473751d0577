pub mod Applied
pub mod CellMaps
pub mod CellOfSystem
pub mod MapLaws
pub mod Maps
pub mod MonthOfCells
pub mod Widths
