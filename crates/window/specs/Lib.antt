pub mod LastReports
pub mod Window
