pub mod Sequence
pub mod Counted
pub mod Merged
