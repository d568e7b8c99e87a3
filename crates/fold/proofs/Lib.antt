pub mod Believe
pub mod Laid
pub mod Lasting
pub mod Passed
pub mod Settling
