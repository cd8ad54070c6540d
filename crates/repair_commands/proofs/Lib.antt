pub mod Broken
pub mod Counted
pub mod Determined
pub mod Outcomes
pub mod FewCopies
pub mod Told
pub mod Repaired
