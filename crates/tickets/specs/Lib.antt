pub mod World
pub mod Once
pub mod Playing
pub mod Entries
pub mod Rule
pub mod Seats
pub mod Crews
