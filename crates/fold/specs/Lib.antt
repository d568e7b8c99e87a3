pub mod Decision
pub mod Direction
pub mod Fog
pub mod Lights
pub mod Lookat
pub mod Scales
