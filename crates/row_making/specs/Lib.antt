pub mod ListTables
pub mod Sessions
pub mod Indexes
