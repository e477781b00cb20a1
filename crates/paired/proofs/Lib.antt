pub mod LawsPaired
pub mod CasesPaired
