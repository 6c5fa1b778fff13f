pub mod Marks
pub mod Pointed
