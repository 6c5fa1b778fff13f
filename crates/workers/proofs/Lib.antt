pub mod Jobs
pub mod Ends
pub mod Raising
pub mod Gathering
pub mod Slots
pub mod Outcomes
