pub mod Nodes
pub mod Hashing
pub mod Jobs
pub mod Marking
