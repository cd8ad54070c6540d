pub mod Copied
pub mod Left
pub mod ReadAgain
pub mod Patched
pub mod SomePatches
pub mod FewEdits
pub mod OneMore
pub mod OneRefusal
