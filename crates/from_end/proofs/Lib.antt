pub mod LawsFromEnd
pub mod CasesFromEnd
pub mod LawsCut
