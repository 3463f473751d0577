pub mod Premiums
pub mod Quotients
