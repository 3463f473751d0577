pub mod Grown
pub mod ReadAnswers
pub mod Starts
pub mod Wholes
