pub mod Leaves
pub mod Slots
