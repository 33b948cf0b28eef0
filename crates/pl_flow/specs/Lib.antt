pub mod Flows
pub mod LaneRuns
pub mod Makes
pub mod LanesViews
