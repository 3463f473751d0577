pub mod Halves
pub mod Intervals
pub mod Printing
pub mod Products
pub mod Rows
pub mod Tables
