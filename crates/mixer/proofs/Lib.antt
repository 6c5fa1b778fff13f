pub mod ColumnSteps
pub mod CutSteps
pub mod LevelSteps
pub mod Lists
pub mod Tops
