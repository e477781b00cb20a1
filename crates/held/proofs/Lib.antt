pub mod LawsGoing
pub mod LawsSearch
pub mod LawsFirst
pub mod LawsSpans
pub mod Cases
