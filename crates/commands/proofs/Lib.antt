pub mod ChunkLemmas
pub mod RowLemmas
pub mod CommandLemmas
pub mod LawLemmas
