pub mod Values
pub mod Words
pub mod Manual
pub mod Commands
pub mod Grammar
pub mod Matched
