pub mod LawsWindowAnswers
