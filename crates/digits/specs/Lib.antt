pub mod Digits
pub mod Wrong
