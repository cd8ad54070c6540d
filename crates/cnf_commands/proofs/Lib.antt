pub mod FormulaVariables
pub mod Numbering
pub mod Searching
pub mod FoundBySearch
pub mod Refuting
pub mod SolveHeadline
