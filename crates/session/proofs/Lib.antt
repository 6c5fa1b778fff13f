pub mod NumberLemmas
pub mod SessionLemmas
pub mod SerialSessions
pub mod WholeSessions
