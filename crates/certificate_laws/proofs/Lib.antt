pub mod LaidOut
pub mod Certified
pub mod Kept
pub mod Repaired
pub mod Made
pub mod VerifiedAccepted
