pub mod Rechecks
pub mod Singles
pub mod Needed
pub mod Texts
pub mod Held
pub mod Laws
pub mod HeldLines
