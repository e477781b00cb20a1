pub mod Range
pub mod Narrowing
