pub mod Millionths
