-- The words of document 01 that every layer uses.
pub mod Refusal
pub mod Width
pub mod Kind
pub mod Limits
pub mod Errors
pub mod Settings
