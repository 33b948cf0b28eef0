pub mod Answers
pub mod Channels
pub mod Holding
