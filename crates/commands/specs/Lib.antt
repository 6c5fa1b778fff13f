pub mod Rows
pub mod Machine
pub mod CommandRecords
pub mod Commands
pub mod Reader
pub mod Laws
