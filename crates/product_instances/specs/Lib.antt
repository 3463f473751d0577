pub mod Further
pub mod LedgerRows
pub mod RuleLimits
pub mod FlatRows
pub mod LateStart
