pub mod LawsBilling
pub mod CasesBilling
