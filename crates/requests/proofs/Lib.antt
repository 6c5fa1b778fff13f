pub mod BatchLemmas
pub mod LineLemmas
pub mod RequestRoundTrip
pub mod RoundTrip
