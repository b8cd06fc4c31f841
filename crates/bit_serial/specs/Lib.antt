-- The chip's own way of working: the steps of a product and of a quotient, the answers that they lead to, and the work that they are.
pub mod UpTo
pub mod Product
pub mod Quotient
pub mod Answer
pub mod Engine
pub mod Work
