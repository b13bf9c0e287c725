pub mod Spelling
pub mod Cutting
pub mod Find
