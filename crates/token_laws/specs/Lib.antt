pub mod Covered
pub mod CoveredLimits
pub mod Collisions
pub mod EqualTokens
pub mod HashChains
pub mod States
pub mod Runs
