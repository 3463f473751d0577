pub mod Ascii
pub mod Rows
pub mod WholeSheets
