-- Laws of the steps: what one does, and where they end.
pub mod UpTo
pub mod Adding
pub mod Subtracting
pub mod Products
pub mod Quotients
pub mod Answers
pub mod Same
pub mod Cases
