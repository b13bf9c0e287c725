pub mod Held
pub mod Cable
