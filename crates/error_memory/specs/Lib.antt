-- The book of the error memory.
pub mod Event
pub mod Memory
-- how the code holds it
pub mod Held
