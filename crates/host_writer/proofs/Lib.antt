pub mod RowTexts
pub mod RowWalks
pub mod LineTexts
