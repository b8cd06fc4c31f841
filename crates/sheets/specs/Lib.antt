-- The book of module sheets.
pub mod Step
pub mod Held
pub mod Calls
pub mod Growth
