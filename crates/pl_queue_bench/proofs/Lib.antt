pub mod FlagSteps
pub mod SeatPairs
