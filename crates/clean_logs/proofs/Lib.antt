pub mod Codes
pub mod NewLemmas
pub mod ShortLogs
