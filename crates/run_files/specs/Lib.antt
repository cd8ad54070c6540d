pub mod Limits
pub mod Refusals
pub mod HandedOut
pub mod Answers
pub mod Reading
pub mod ReadingLines
pub mod LineJudges
pub mod Judgements
