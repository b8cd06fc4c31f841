-- The laws of formulas.
pub mod Cases
pub mod Digits
pub mod Stores
pub mod Places
pub mod Tokens
pub mod Sound
pub mod Complete
pub mod Reading
pub mod Going
pub mod Measure
pub mod Walking
pub mod Texts
pub mod Translating
pub mod Sizes
