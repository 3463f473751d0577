pub mod PartsAgree
pub mod PlacedLists
pub mod WellFormed
