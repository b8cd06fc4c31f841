-- The book of record files.
pub mod Record
pub mod Run
-- how the program holds them: its place in a file, and what its functions say of the definitions above
pub mod Held
