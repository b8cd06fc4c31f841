-- What the listing program prints for an input.
pub mod Printout
