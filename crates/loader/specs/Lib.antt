pub mod Tables
pub mod Image
pub mod Gathered
pub mod Additions
pub mod LateRows
