pub mod Tallied
pub mod Made
pub mod OneMade
pub mod Answered
pub mod Told
