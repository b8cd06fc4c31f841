-- The laws behind the decoder, and those about it.
pub mod Bits
pub mod Counts
