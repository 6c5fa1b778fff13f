mod Besides
mod Picking
mod Placing
mod Bounding
mod Undoing
mod Replacing
mod Exchanging
mod Pointing
