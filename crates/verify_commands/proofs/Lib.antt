pub mod DownFlags
pub mod Judging
pub mod Verified
pub mod TraceOnce
pub mod OneTrace
pub mod Traced
