pub mod RankKeys
pub mod Tables
pub mod Shelved
pub mod Grouped
pub mod Parted
pub mod Linked
pub mod Each
pub mod Districts
