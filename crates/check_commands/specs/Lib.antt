pub mod ReportChecks
pub mod RepairChecks
pub mod Readings
pub mod Tells
