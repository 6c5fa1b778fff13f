pub mod RankRows
pub mod Kinds
pub mod Stored
pub mod NewRows
pub mod LastOrders
pub mod Parts
pub mod Walks
pub mod OrderLines
