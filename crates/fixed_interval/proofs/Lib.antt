pub mod Enclosing
pub mod Ends
pub mod Midpoints
pub mod PrintedEnds
pub mod Rows
pub mod TwoFloors
pub mod WholeEnds
