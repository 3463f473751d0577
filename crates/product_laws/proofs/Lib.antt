pub mod FittingNumbers
pub mod PowerNorms
pub mod ProductPairs
pub mod ProductTame
pub mod SparseCells
