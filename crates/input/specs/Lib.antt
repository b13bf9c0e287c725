pub mod Parts
pub mod Prints
pub mod ReportLines
