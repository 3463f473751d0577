pub mod Changes
pub mod DegreeLimit
pub mod Layout
pub mod Setting
pub mod StandsFor
pub mod StoredSystem
