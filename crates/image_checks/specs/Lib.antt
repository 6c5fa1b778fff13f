pub mod Totals
pub mod Districts
pub mod Checks
