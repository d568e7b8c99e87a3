pub mod Steps
pub mod Vertices
