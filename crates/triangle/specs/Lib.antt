pub mod Run
pub mod Slot
pub mod Steps
