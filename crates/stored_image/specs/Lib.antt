pub mod StoredRecords
pub mod StoredImage
