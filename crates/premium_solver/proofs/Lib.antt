pub mod IntervalQuotients
pub mod PremiumTables
pub mod QuotientEnds
pub mod SmallPatterns
pub mod TwoDivisions
