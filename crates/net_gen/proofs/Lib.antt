pub mod Counted
pub mod Lengths
