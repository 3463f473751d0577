pub mod Breaks
pub mod Joining
pub mod JointRecord
pub mod Laws
pub mod Marginals
pub mod Moves
