pub mod LawsAdding
