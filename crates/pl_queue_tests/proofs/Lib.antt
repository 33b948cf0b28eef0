pub mod RelayLemmas
pub mod OpeningLemmas
