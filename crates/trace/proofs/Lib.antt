pub mod Lending
pub mod Reading
pub mod Serving
