pub mod Alike
pub mod States
pub mod Shifts
pub mod Chain
pub mod Grown
