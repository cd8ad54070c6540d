pub mod ClassCounts
pub mod EditFaults
pub mod DocumentCauses
pub mod FilesRead
pub mod Determined
pub mod SameInput
pub mod AllTrue
