pub mod Shown
pub mod Settings
pub mod Bench
pub mod Statement
pub mod Inked
pub mod Broken
