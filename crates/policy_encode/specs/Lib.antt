pub mod Turning
pub mod Answers
pub mod Questions
pub mod Formulas
pub mod Mirrors
pub mod Laws
pub mod Finding
