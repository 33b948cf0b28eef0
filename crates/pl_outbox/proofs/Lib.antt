pub mod SentLemmas
pub mod OutboxLemmas
pub mod AddSteps
pub mod OfferSteps
pub mod AdmissionLemmas
pub mod HandSteps
pub mod TryLemmas
pub mod Sends
