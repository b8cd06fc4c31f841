-- The laws of a run, over every lawful step.
pub mod Tests
pub mod Running
pub mod Append
pub mod Through
pub mod Cut
