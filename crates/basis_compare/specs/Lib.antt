pub mod Bases
pub mod Changes
pub mod ChangesText
pub mod Costs
pub mod Differences
