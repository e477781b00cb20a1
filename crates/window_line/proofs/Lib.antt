pub mod LawsWindowLine
pub mod Shown
