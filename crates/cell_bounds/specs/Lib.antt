pub mod CellBounds
pub mod ScaledSystems
pub mod SmallCellLaws
