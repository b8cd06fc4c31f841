-- The book of numbers: as bytes, and with a sign.
pub mod Little
pub mod Signed
