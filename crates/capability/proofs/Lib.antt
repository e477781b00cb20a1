pub mod LawsCapability
pub mod CasesCapability
