pub mod AdmissionSums
pub mod AdmissionMoves
pub mod Gathering
pub mod PromiseMoves
pub mod WatermarkMoves
