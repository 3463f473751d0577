pub mod YearlyReserves
