pub mod View
pub mod Data
