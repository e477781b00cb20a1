pub mod LawsFilling
pub mod LawsFinding
