pub mod CardKinds
pub mod CardMap
pub mod Infos
pub mod LastNames
pub mod Lookups
pub mod NameOrder
pub mod StockCards
pub mod CardBytes
