pub mod Queue
pub mod Routes
pub mod Steps
pub mod TraceText
