pub mod Declarations
pub mod Earlier
pub mod Found
pub mod Places
pub mod Settled
pub mod Told
