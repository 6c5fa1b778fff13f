pub mod Faults
pub mod Columns
pub mod Versions
pub mod ImageRecords
pub mod Databases
