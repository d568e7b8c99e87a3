pub mod Acting
pub mod Applied
pub mod Playing
pub mod Runs
pub mod Believe
