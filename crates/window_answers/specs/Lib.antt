pub mod WindowAnswers
