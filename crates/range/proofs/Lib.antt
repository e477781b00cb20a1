pub mod LawsRange
pub mod LawsNarrowing
pub mod CasesRange
