pub mod Ways
pub mod Passing
pub mod Hanging
pub mod BlocksTaken
pub mod OneAnswer
pub mod Anew
