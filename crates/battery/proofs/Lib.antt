pub mod LawsBattery
pub mod Cases
