pub mod LawsMasked
pub mod LawsShown
