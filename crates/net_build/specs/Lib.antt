pub mod Appends
pub mod Order
pub mod Places
pub mod Networks
