pub mod MadeMaps
pub mod StoredMap
