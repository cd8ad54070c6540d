pub mod Members
pub mod Documents
pub mod Drafts
pub mod Services
