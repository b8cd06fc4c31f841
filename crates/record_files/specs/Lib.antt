-- The book of files: the run by any record step, and what a step must keep.
pub mod Run
pub mod Lawful
