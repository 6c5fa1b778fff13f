pub mod IoLemmas
pub mod RecordLemmas
pub mod FieldLemmas
pub mod SpellingLemmas
pub mod WriterLemmas
