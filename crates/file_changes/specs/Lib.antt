pub mod Asks
pub mod BasisChanges
pub mod Charges
pub mod ContinuousAsks
pub mod ContinuousCharges
pub mod Laws
