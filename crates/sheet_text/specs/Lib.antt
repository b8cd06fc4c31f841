-- What the program of the sheets prints for an input.
pub mod Printout
