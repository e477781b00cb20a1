pub mod LawsPublic
