pub mod Append
pub mod Family
pub mod Judge
pub mod Lights
pub mod Stack
pub mod Steps
