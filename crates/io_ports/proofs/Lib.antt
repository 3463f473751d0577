mod Finding
pub mod Growth
