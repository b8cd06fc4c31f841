-- The laws of the stored state and of the calls on it.
pub mod States
pub mod Cards
pub mod Laid
pub mod Calling
