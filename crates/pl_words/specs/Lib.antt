pub mod Names
pub mod Phases
pub mod AdmissionRule
pub mod Admissions
pub mod PromiseRule
pub mod PromiseViews
pub mod WatermarkRule
pub mod Watermarks
