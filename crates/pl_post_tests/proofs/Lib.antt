pub mod FeedingLemmas
pub mod TurnLemmas
