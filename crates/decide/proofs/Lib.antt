pub mod Ends
pub mod Shorts
pub mod Slots
pub mod First
pub mod Turning
