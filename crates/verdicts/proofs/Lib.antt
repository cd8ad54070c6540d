pub mod Lists
pub mod Ways
pub mod Walks
pub mod ClosedSides
pub mod Reached
pub mod Pushes
pub mod Cuts
pub mod Verdicts
