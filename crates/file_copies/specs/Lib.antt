pub mod Outputs
pub mod Changes
