pub mod Lemmas
pub mod CleanLogs
pub mod Laws
