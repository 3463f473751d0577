pub mod Extremes
pub mod Found
pub mod ListsByPlace
pub mod Members
pub mod Numbers
pub mod Places
pub mod ShortLists
pub mod Tests
