pub mod Reason
pub mod Truth
