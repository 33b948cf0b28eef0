pub mod LaneContents
pub mod WorldChannels
pub mod Wholes
pub mod OneChannel
pub mod HeadMoves
pub mod Vecs
pub mod WholeParts
pub mod LanePlaces
pub mod PlaceTables
mod LaneCounts
mod CountedParts
mod WholeChannels
mod Lists
mod Contents
mod PlannedLanes
mod NewChannels
pub mod EventClones
pub mod HeadLanes
pub mod EndReports
pub mod PlanLemmas
mod FedInputs
pub mod FedPlans
pub mod Feeding
