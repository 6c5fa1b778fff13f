pub mod Sums
pub mod TotalsLemmas
pub mod DistrictLemmas
pub mod OfKinds
pub mod ConditionLemmas
