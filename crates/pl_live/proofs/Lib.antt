mod Meant
pub mod Followed
mod Reading
pub mod Moved
mod Sent
pub mod ReadMoves
pub mod WriteMoves
mod IdleNets
mod FedViews
mod FedGoes
pub mod Fed
pub mod Looks
mod TakenLanes
mod ContextsGive
mod AllRead
mod AllHops
pub mod LiveEnds
pub mod CaughtUp
pub mod Pending
pub mod AbortMoves
pub mod Changed
pub mod Kept
pub mod LiveStarts
