pub mod Math
pub mod Memory
pub mod Rsp
pub mod Drawing
pub mod Walk
pub mod Relation
pub mod Domain
