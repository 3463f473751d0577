pub mod AuditSheet
pub mod ChangesSheet
pub mod Laws
pub mod ReportSheet
pub mod TotalsSheet
