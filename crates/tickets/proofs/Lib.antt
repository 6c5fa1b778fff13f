pub mod Lists
pub mod Sound
pub mod Played
pub mod Numbered
pub mod Steps
pub mod Dealing
pub mod Closing
