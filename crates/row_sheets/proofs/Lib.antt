pub mod Grown
pub mod Records
pub mod Trees
