pub mod Each
pub mod Record
pub mod Good
