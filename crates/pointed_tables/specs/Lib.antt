pub mod Aside
pub mod Bounds
pub mod Logs
pub mod Returns
