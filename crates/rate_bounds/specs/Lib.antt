pub mod Admissions
pub mod Breaks
pub mod Growths
pub mod LedgerSteps
pub mod MonthPay
pub mod MonthRates
pub mod MonthTables
pub mod SecondCells
