pub mod Laws
pub mod Examples
pub mod Square
pub mod Breaking
pub mod Routes
