pub mod Keyed
pub mod LineSizes
pub mod RowSizes
pub mod Costs
pub mod Weights
pub mod Files
