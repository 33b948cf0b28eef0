pub mod Relays
pub mod Playing
pub mod SampleParts
