pub mod Walking
pub mod Slots
pub mod Planes
pub mod Finding
pub mod Believe
