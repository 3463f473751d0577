pub mod Respect
pub mod Ring
pub mod WholeRing
pub mod WholeTerms
