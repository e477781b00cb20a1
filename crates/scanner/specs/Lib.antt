pub mod Scanner
pub mod Taking
pub mod Skipping
