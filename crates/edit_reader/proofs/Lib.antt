mod Marked
mod LinesRead
pub mod Placed
