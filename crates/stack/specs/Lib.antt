-- The stack: its words, the layouts that events and commands leave, the diagrams of the sheets.
pub mod Stack
pub mod Diagrams
-- how the code holds it: two machine words for the 16 bytes
pub mod Words
