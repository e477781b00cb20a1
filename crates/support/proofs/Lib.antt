pub mod LawsSupport
