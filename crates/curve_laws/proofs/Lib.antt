pub mod CellParts
pub mod ControlLists
pub mod PartBounds
pub mod PartFacts
pub mod PartMeans
