pub mod Sent
pub mod Tries
pub mod OutboxViews
pub mod Admitting
