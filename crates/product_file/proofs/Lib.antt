pub mod Passed
pub mod Wholes
pub mod Heads
pub mod Transitions
pub mod Curves
pub mod Payments
pub mod Lumps
pub mod Products
