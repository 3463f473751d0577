pub mod SmallCellGrowth
