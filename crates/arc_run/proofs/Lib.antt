pub mod Puts
pub mod Writes
pub mod Finishing
pub mod Owns
pub mod Headline
