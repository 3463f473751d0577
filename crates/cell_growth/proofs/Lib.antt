pub mod CellGrowth
pub mod SecondGrowth
pub mod SmallCellGrowth
