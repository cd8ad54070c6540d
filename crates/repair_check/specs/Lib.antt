pub mod Instances
pub mod Outcomes
pub mod Phases
pub mod Certifies
pub mod LineByLine
