pub mod Lasts
pub mod Recording
pub mod Runs
pub mod Slots
pub mod Stages
