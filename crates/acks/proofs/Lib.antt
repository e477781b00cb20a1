pub mod LawsAcks
pub mod LawsStation
