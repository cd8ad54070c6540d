pub mod NewEntries
pub mod Changed
pub mod Told
mod Turns
mod Acting
pub mod Turning
pub mod NoEdits
pub mod Listed
pub mod SameHosts
mod KeptEntries
mod SameServices
pub mod SameClasses
