pub mod LawsWindow
pub mod CasesWindow
