pub mod Written
pub mod SessionLines
pub mod NewListLines
pub mod EntryLines
pub mod Additions
pub mod Patches
pub mod Working
