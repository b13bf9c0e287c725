pub mod Parted
pub mod Prints
pub mod ReportLines
