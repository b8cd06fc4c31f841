-- Two's complement arithmetic: its definitions, over every width.
pub mod Fixed
-- what the program keeps and 01 does not name: two words, a word's sign and magnitude
pub mod Parts
