pub mod Applies
pub mod Steps
