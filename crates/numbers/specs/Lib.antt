pub mod Choice
pub mod Length
pub mod Ratio
pub mod Sqrt
