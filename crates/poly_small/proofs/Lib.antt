pub mod Months
pub mod Shifts
pub mod Sixes
pub mod Units
pub mod Values
