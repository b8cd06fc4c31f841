-- The text of an operation worked a bit at a time.
pub mod Lines
pub mod Steps
pub mod Asked
