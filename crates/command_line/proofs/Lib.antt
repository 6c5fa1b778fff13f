pub mod CommandLemmas
pub mod FaultLemmas
