pub mod Sites
pub mod Grown
pub mod Laws
