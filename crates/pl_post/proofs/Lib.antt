pub mod CountLemmas
pub mod SeatLemmas
pub mod MomentLemmas
