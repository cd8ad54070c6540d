pub mod Fixed
pub mod Judged
pub mod Sides
pub mod Reaching
