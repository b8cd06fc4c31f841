-- The book of what is stored: the bytes of a state and of a report, and the calls on them.
pub mod Bytes
pub mod Calls
-- how the program holds them
pub mod Held
