pub mod AllCovered
pub mod Writing
