pub mod Plans
pub mod RouterFiles
pub mod Generated
