pub mod Content
pub mod Growing
pub mod Reading
