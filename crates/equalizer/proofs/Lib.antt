pub mod LawsEqualizer
