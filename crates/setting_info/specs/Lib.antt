pub mod SettingInfo
