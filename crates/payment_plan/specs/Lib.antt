pub mod Loads
pub mod Payments
pub mod Records
pub mod Steps
pub mod Tables
