pub mod LawsCutting
