-- The laws of module sheets.
pub mod Lines
pub mod Turning
pub mod Calling
pub mod Growth
