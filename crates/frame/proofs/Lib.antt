pub mod LawsRoundTrip
pub mod Cases
