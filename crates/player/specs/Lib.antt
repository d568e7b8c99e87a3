pub mod Acts
pub mod Ops
pub mod Play
pub mod Replay
