pub mod Space
pub mod Cut
pub mod Content
pub mod Index
pub mod Table
