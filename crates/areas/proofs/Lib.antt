pub mod Tables
pub mod Puts
pub mod Sames
