pub mod Chains
pub mod Limits
pub mod Movers
pub mod PlanRules
pub mod Plans
pub mod Reports
pub mod Sessions
pub mod Worlds
