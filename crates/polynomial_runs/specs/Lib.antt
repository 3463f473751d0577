pub mod FarDecay
pub mod MonthPolynomials
pub mod PolynomialSystems
