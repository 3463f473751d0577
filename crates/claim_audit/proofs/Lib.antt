pub mod ClaimLists
pub mod FoundClaims
pub mod Nearness
pub mod Numbers
pub mod OneReading
pub mod RightMarks
pub mod TextLines
pub mod ThreeFields
