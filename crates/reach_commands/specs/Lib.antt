pub mod Added
pub mod Nodes
pub mod PreferRuns
pub mod RecheckRuns
pub mod ReportLines
