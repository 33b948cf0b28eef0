pub mod ListSteps
pub mod EachWith
pub mod ByChannel
pub mod PartsHere
pub mod Ways
pub mod Columns
pub mod WaysDealt
pub mod LaneLemmas
pub mod StartLemmas
pub mod ExecutorNodeLemmas
pub mod HeadLists
pub mod CallLemmas
pub mod OverLemmas
pub mod ChannelRows
pub mod MovedNodes
pub mod Ready
pub mod SharesMade
pub mod SharesHere
pub mod SharesStand
pub mod Fits
pub mod FitsStart
pub mod LeftEnds
pub mod FilledSlots
pub mod LeftStages
mod RunEnds
pub mod RunReports
mod LaneTablesSums
mod LaneTablesEvery
mod LaneTablesSteps
mod LaneTablesGrown
mod WaysMade
pub mod LaneTables
pub mod WordLemmas
pub mod SeatLemmas
pub mod SettledWrites
pub mod ToldNodes
pub mod ServedNodes
pub mod PartTold
