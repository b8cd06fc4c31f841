-- Records as people write them: the kinds, the names of commands, the text of a record; the words of a line, what a word names, what it stands for, what a
-- line says; what both promise; the states of a run.
pub mod Letters
pub mod Kinds
pub mod Names
pub mod Told
pub mod Words
pub mod Named
pub mod Values
pub mod Line
pub mod Meaning
pub mod Trace
-- what the code holds, for its contracts alone
pub mod Held
