pub mod LawsDecimal
