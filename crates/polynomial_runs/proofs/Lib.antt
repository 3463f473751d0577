pub mod FarDecay
pub mod Following
pub mod Misses
pub mod MonthSteps
pub mod MonthValues
pub mod PowersOf12
pub mod Tables
