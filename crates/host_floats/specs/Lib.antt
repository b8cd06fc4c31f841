-- Chip words as host floats and back, and buffers of them.
pub mod Host
pub mod Double
pub mod Buffers
