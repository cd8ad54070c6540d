pub mod Inputs
pub mod Counts
pub mod Determined
pub mod TrueVerdicts
