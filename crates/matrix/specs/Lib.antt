pub mod Clip
pub mod Math
