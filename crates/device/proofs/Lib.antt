pub mod Four
pub mod Changed
pub mod Stretches
pub mod FreshGood
