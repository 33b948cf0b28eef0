pub mod RunLemmas
pub mod CountLemmas
pub mod Sends
pub mod FirstTurns
pub mod TurnLemmas
pub mod KeepLemmas
