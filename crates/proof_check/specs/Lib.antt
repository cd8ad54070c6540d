pub mod Knowledge
pub mod Logs
pub mod Marks
pub mod Outcomes
pub mod Places
pub mod Propagation
pub mod Rows
pub mod View
