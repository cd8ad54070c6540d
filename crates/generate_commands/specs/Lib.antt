pub mod Tallies
pub mod Summaries
pub mod Generates
pub mod Steps
pub mod Tells
