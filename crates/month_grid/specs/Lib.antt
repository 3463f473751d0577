pub mod CellPolynomials
pub mod MonthGridLaws
