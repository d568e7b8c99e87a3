pub mod Rolling
pub mod Nan
