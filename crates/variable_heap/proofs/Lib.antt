pub mod Exchanges
pub mod Orders
pub mod Places
pub mod Popping
pub mod Pushing
pub mod Variables
pub mod Taking
pub mod Putting
