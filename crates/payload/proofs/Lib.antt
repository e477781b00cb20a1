pub mod LawsSetting
