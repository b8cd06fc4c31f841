-- Laws that the proofs of the printing cite, and lines computed.
pub mod Lines
pub mod Kept
pub mod Examples
