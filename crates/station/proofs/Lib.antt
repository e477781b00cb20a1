pub mod LawsAnswer
