-- What is true of host floats and of buffers of them beyond what the conversions' own proofs need.
pub mod Signs
pub mod Apart
pub mod Sizes
pub mod Classes
pub mod Inward
pub mod Back
pub mod Pairs
pub mod Owned
pub mod Brought
pub mod DoubleBack
pub mod Blocks
pub mod Found
