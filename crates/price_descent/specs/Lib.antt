pub mod Prices
pub mod Outcomes
pub mod Laws
pub mod Progress
pub mod Loading
