pub mod SampleLemmas
pub mod WaitingLemmas
