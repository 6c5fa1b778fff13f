pub mod Following
pub mod Deliveries
pub mod NewOrders
pub mod Steps
pub mod RecentStocks
pub mod StockLevels
pub mod Straying
