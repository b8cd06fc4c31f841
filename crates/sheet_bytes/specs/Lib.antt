-- The book of the `sheets` slice: its bytes, and what the three kinds of records do to them.
pub mod Ledger
pub mod Entering
