pub mod Formulas
pub mod ProofLines
pub mod Lrats
pub mod Solves
