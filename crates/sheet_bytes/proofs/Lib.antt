-- The laws of the ledger.
pub mod Ledgers
pub mod Laid
pub mod Bits
pub mod Entering
