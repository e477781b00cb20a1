pub mod Filling
pub mod Finding
pub mod State
