pub mod Keys
pub mod ByRank
pub mod Shelves
pub mod Leaves
pub mod LastOrders
