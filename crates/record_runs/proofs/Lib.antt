-- The laws of record files, beside the proofs of the functions.
pub mod Heads
pub mod Blocks
pub mod Writes
pub mod Places
pub mod Turning
pub mod Looping
pub mod Steps
pub mod Prefix
pub mod Ready
