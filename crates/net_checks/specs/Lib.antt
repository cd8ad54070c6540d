pub mod Growing
pub mod FarEnds
pub mod Stopping
pub mod Subnets
pub mod SessionPackets
pub mod Claims
pub mod Sorting
