pub mod Given
pub mod HeadRead
pub mod Judged
pub mod ReportTold
pub mod OneReport
pub mod Told
pub mod OneFault
pub mod OneCheck
