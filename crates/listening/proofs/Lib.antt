pub mod LawsListening
pub mod Stations
pub mod Cases
