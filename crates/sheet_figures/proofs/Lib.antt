-- The laws of the figures.
pub mod Sums
pub mod Lines
pub mod Running
pub mod Adding
pub mod Gathering
pub mod Writing
pub mod Calling
