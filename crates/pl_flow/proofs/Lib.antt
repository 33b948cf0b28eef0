pub mod FlowLemmas
pub mod ItemLemmas
pub mod LaneRunLemmas
pub mod MakeLemmas
pub mod PortFlows
pub mod StageFlows
