pub mod Alike
pub mod ChangeRows
pub mod FirstDifferences
pub mod HybridRules
pub mod Listed
pub mod OtherInterest
pub mod RightChanges
pub mod TextLines
