pub mod Columns
pub mod LevelRows
pub mod Slots
pub mod Tables
