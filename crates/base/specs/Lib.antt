pub mod Outcome
pub mod Refusal
pub mod DataType
pub mod Sum
pub mod Writing
pub mod Stored
