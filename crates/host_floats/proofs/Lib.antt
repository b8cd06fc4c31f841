-- What is true of the conversions, and what the proofs of the functions rest on; the last five are of buffers.
pub mod Patterns
pub mod WordSizes
pub mod Outward
pub mod DoubleOut
pub mod DoubleIn
pub mod Places
pub mod Looking
pub mod Writing
pub mod Answers
