-- The chip by value: its state, its status, what each command leaves, and what each event answers.
pub mod State
pub mod Event
pub mod Status
pub mod Commands
pub mod Step
pub mod InTurn
-- how the code holds them
pub mod Held
