pub mod InParts
pub mod ListTests
