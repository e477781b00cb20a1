pub mod LawsFraming
