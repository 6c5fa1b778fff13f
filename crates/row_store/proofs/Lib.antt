mod Listing
mod Ranked
