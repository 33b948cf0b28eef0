pub mod Causes
mod EventLists
mod ItemFits
mod PortMakes
mod ContextSteps
pub mod LaneStages
mod ContextPlaces
mod ContextCounts
mod ContextStarts
mod TailSteps
mod TakenCounts
pub mod PathSteps
mod NewContexts
mod HeadFlags
mod ReadItems
mod HeadTaken
mod HeadMoves
pub mod NewHeads
pub mod PartCounts
pub mod PartSteps
pub mod HeadReports
mod Forgotten
mod TakenSlots
pub mod ShareLemmas
pub mod ToldLemmas
pub mod Growing
pub mod Standings
