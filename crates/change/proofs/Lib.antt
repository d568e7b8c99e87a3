pub mod Accepted
pub mod Kept
pub mod Storing
