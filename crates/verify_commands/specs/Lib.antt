pub mod Verifies
pub mod Traces
