pub mod MonthReserves
