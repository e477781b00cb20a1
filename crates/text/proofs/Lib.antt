pub mod LawsText
pub mod LawsCharacters
pub mod CasesText
