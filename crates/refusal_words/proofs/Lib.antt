pub mod NameLaws
pub mod OtherKeys
pub mod PlaceLaws
pub mod Sojourns
