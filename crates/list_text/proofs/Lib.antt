-- The laws that the proofs of the listing cite.
pub mod Printing
