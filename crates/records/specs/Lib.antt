pub mod Faults
pub mod Io
pub mod Fields
pub mod Records
pub mod Spelling
pub mod Writer
