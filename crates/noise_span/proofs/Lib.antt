pub mod Cases
pub mod LawsNoiseSpan
pub mod Logged
