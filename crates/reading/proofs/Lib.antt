pub mod LawsItems
pub mod LawsReading
