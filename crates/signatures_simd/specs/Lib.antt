pub mod Bits
pub mod Words
