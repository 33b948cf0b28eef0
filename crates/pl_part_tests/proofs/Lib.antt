pub mod PlayLemmas
pub mod SampleLemmas
