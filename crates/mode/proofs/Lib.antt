pub mod Digits
pub mod Joins
