pub mod AuditText
pub mod Audits
pub mod Claims
pub mod Findings
pub mod Marks
pub mod Readings
