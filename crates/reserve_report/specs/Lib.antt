pub mod CheckText
pub mod Limits
pub mod LoadText
pub mod ReportText
pub mod Reports
pub mod Results
pub mod TableRows
