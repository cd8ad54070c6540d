pub mod Working
pub mod NewNames
