pub mod LawfulParts
pub mod PartLaws
pub mod Parts
pub mod Views
