pub mod Spans
pub mod Search
pub mod Going
