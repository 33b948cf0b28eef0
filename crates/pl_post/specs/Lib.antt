pub mod Posts
pub mod Moments
