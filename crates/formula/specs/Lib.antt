-- Formulas: the tree, its grammar, the reader, the record file, the translator.
pub mod Formula
pub mod Grammar
pub mod Reader
pub mod File
pub mod Translation
-- what the program keeps and 02 does not name: a formula in postfix order, the places of a reading
pub mod Postfix
pub mod Told
