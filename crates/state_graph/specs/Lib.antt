pub mod Exits
pub mod StateGraphs
