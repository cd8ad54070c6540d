pub mod Turned
pub mod Acting
pub mod Laws
pub mod Kept
