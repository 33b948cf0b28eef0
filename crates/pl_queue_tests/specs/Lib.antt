pub mod Relays
pub mod Openings
pub mod Lines
pub mod Flags
