pub mod Clearing
pub mod Columns
pub mod Made
pub mod NumbersInUnits
pub mod Places
pub mod Rows
pub mod Writes
