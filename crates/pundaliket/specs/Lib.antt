-- The book of the exported calls.
pub mod Calls
pub mod FormulaCall
-- how the program settles an event
pub mod Held
