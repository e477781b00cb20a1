pub mod LawsPlan
