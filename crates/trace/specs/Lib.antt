pub mod Acts
pub mod Script
pub mod Header
pub mod Shapes
