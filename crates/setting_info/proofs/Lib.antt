pub mod LawsSettingInfo
pub mod CasesSettingInfo
