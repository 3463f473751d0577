pub mod FileTree
pub mod Laws
pub mod Upgraded
