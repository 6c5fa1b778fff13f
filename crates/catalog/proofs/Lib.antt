pub mod CardCodes
pub mod CardKeys
pub mod Counts
pub mod InOrder
pub mod Infos
pub mod Keyed
pub mod Late
pub mod Middles
pub mod NameOrders
mod NumberedTexts
pub mod Naming
pub mod Packing
pub mod Tables
