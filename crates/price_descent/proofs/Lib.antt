pub mod Starting
pub mod Parts
pub mod Logs
pub mod Sound
pub mod Underway
pub mod Offers
