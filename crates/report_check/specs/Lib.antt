pub mod Outcomes
pub mod Lines
pub mod LineByLine
pub mod Lengths
