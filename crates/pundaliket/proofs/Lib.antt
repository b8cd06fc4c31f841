-- The laws of the calls, beside the proofs of the functions.
pub mod Calling
pub mod Events
