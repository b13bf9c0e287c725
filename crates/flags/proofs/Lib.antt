pub mod Bits
pub mod Unions
pub mod Names
