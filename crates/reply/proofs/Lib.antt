pub mod Writing
pub mod Lists
pub mod Lengths
pub mod Texts
pub mod Room
pub mod Telling
pub mod HelpTexts
