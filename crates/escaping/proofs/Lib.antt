pub mod LawsEscaping
pub mod LawsUnescaping
pub mod LawsFree
