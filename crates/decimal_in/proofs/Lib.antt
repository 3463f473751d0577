pub mod Digits
pub mod PlacesLaws
pub mod SmallSizes
