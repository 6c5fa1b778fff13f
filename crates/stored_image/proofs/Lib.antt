pub mod RowKeys
pub mod StoredTexts
