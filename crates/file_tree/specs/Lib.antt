pub mod KeyTables
pub mod Texts
