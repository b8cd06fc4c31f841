-- Laws that the proofs of the listing's functions cite.
pub mod Adding
pub mod Decimal
pub mod Digits
pub mod HexReading
pub mod Lines
pub mod Replies
pub mod Listed
pub mod Examples
pub mod Texts
