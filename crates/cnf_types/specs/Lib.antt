pub mod Literals
pub mod Formulas
pub mod Dimacs
pub mod Progress
