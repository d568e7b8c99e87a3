pub mod Believe
pub mod Turns
