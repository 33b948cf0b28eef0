pub mod Lanes
pub mod WholeParts
pub mod Channels
pub mod Ways
pub mod Ends
pub mod PlanStand
pub mod Feeding
