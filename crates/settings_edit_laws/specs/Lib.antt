pub mod Plain
pub mod Additions
pub mod SettingsAfter
pub mod Premises
pub mod Laws
