pub mod MonthGrids
