pub mod ChargeInstances
pub mod ChargeLaws
