pub mod Refusals
pub mod Effects
pub mod Reports
