-- The laws of the error memory.
pub mod Kept
pub mod Good
