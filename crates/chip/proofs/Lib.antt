-- The laws of the chip.
pub mod Errors
pub mod Rows
pub mod Answers
pub mod Kept
pub mod Outcomes
pub mod Accepted
pub mod InTurn
pub mod Ready
pub mod Held
