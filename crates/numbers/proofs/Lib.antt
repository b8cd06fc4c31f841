-- The laws of numbers as bytes, and of whole numbers with a sign. Assumes nothing.
pub mod Laid
pub mod Exact
pub mod Reversed
pub mod Differences
pub mod Signs
