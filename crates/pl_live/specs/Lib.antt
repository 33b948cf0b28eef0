pub mod LiveStand
