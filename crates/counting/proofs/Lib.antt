pub mod LawsCounting
pub mod LawsLines
pub mod LawsCounts
