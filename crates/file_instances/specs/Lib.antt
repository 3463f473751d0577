pub mod FileInstances
