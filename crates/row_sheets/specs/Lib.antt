pub mod CsvText
pub mod JsonText
pub mod Sheets
