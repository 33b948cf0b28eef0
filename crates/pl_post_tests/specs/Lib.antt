pub mod Feeding
pub mod Turns
