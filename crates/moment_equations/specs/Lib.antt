pub mod NearMoments
pub mod Kinds
pub mod Dates
pub mod Results
