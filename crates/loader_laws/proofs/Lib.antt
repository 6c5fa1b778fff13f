pub mod StoredRecords
pub mod StoredMaps
pub mod StoredTables
pub mod StoredImage
pub mod StoredChecks
pub mod StoredDistricts
