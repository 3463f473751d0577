pub mod Draws
pub mod Laws
pub mod Tree
pub mod Transitions
