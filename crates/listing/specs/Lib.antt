-- What the listing program prints, and what the words of a call ask for.
pub mod Text
pub mod Hex
pub mod Listing
pub mod Options
