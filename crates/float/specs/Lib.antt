-- Float words: what a word says, the cut under either rule, the four operations, the conversions, the root.
pub mod Word
pub mod Cut
pub mod Float
pub mod Convert
pub mod Root
-- what the program keeps and 01 does not name: a quotient and a root rounded to odd, an addend
pub mod Jam
pub mod Addend
pub mod Traced
