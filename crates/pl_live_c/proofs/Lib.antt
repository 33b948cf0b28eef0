pub mod BoxPartsValues
pub mod HeldCalls
pub mod HeldValues
pub mod Opened
