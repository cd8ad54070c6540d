pub mod Past
pub mod Preferred
