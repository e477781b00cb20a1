pub mod LawsDraining
