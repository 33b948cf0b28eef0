pub mod Lists
pub mod Steps
pub mod Drains
pub mod PositionLemmas
pub mod LimitLemmas
pub mod RoomLemmas
mod TakerLemmas
