pub mod Counting
pub mod Believe
