pub mod LawsDigits
