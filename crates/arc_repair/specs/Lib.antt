pub mod Repairs
pub mod Claims
pub mod Answers
pub mod Checks
pub mod Laws
pub mod Search
