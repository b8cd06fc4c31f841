-- Laws of decimal numbers.
pub mod Parts
pub mod Tests
pub mod Spelling
pub mod Quotients
pub mod Kept
pub mod Judging
pub mod Scanning
pub mod Parsing
pub mod Shortest
pub mod SumReading
pub mod Lines
pub mod Fractions
pub mod Texts
pub mod ReadBack
