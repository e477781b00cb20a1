pub mod LawsFinding
pub mod LawsPeeking
