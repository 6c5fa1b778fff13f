pub mod BitSets
