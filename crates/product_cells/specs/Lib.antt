pub mod EachCell
pub mod MonthFractions
pub mod SmallCells
