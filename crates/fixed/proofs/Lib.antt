-- The laws of the arithmetic, and what stands beside the proofs of the functions.
pub mod LowBits
pub mod Sums
pub mod Products
pub mod Exact
pub mod Bench
