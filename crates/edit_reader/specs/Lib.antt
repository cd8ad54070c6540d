pub mod EditFiles
pub mod Places
