pub mod Heaps
pub mod Kept
