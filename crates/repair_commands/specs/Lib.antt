pub mod Repairs
pub mod Steps
pub mod Outcomes
pub mod Tells
