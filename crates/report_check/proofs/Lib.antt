pub mod OneOutcome
pub mod Rights
mod Heads
pub mod Zipped
pub mod Readable
mod Exactly
pub mod AtPlaces
mod Leading
mod Feeding
pub mod Short
