pub mod FirstLines
pub mod Determined
pub mod Told
pub mod Applied
