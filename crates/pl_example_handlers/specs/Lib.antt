pub mod Counting
pub mod OddLines
pub mod UpperCase
