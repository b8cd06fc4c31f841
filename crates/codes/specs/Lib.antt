-- What a command code stands for.
pub mod Command
pub mod Codes
pub mod Format
