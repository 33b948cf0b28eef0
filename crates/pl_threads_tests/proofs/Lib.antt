pub mod NodeLemmas
pub mod StartLemmas
