pub mod Signed
pub mod Counting
pub mod Believe
