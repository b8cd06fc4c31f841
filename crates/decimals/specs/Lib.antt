-- Decimal numbers as people write them: the exact text, reading, the fewest places, the lines that are told, and what all that promises.
pub mod Exact
pub mod Bring
pub mod Read
pub mod Short
pub mod Line
pub mod Sum
pub mod Meaning
-- as the code holds a magnitude; no reader needs it
pub mod Magnitude
