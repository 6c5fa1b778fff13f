pub mod Paging
pub mod Marking
