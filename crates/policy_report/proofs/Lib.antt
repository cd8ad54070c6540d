pub mod Appends
pub mod NamedRouters
mod Spaced
mod Ended
mod Separators
mod SameServices
mod ServiceTexts
mod WordBytes
mod ServiceParts
mod LineWords
mod Sides
mod Parts
mod Spelled
mod Counted
mod Blocks
mod BlocksRead
mod BlocksTaken
mod FirstLines
mod WitnessesRead
mod WitnessesTaken
mod BlockTexts
pub mod ReportsRead
pub mod ReportsTaken
pub mod EditsFound
mod EditWords
mod LogsRead
pub mod CertificatesRead
pub mod EditsTold
pub mod CertificatesTaken
pub mod Lengths
pub mod Heads
