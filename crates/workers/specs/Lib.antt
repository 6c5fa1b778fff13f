pub mod LevelEnds
pub mod Parts
