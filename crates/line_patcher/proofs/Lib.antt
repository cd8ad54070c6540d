pub mod Growing
pub mod RowsWithin
pub mod NewFaces
pub mod Tables
pub mod BuiltFiles
pub mod Patched
pub mod Untouched
