pub mod Views
pub mod Writers
