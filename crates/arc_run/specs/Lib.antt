pub mod Words
pub mod Outcomes
pub mod Runs
pub mod Headline
