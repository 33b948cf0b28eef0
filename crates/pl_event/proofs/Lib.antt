pub mod Lists
pub mod LaneLemmas
pub mod FittingLemmas
pub mod SameLanes
