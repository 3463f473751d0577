pub mod Entries
pub mod Laws
pub mod Merged
pub mod Sums
pub mod Tables
