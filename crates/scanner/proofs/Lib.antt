pub mod LawsScanner
pub mod LawsTaking
pub mod LawsSkipping
pub mod Cases
pub mod Walk
