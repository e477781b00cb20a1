pub mod LawsPass
pub mod LawsHeading
