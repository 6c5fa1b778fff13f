pub mod ByKind
pub mod Keyed
pub mod NewNumbers
pub mod Counting
pub mod OrderNumbers
pub mod Parts
pub mod LineRows
