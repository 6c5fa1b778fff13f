pub mod Joins
pub mod Placing
pub mod Refreshing
pub mod Texts
pub mod Marking
pub mod Chunks
pub mod NodeTexts
pub mod PageTexts
