pub mod Told
pub mod Accepted
pub mod ReportLength
pub mod InWords
