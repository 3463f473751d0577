pub mod WholePolynomials
