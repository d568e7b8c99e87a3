pub mod Believe
pub mod Constants
pub mod Finite
