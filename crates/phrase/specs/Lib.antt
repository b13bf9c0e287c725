pub mod Spelling
pub mod Reading
pub mod Writing
pub mod Refusals
pub mod Place
