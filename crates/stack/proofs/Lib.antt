-- The laws of the stack.
pub mod Elems
pub mod Words
pub mod Layouts
pub mod Moves
pub mod Diagrams
pub mod Several
pub mod Windows
pub mod TwoWords
pub mod Reversed
pub mod Blocks
