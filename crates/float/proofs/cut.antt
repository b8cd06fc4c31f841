-- The cut under either rule: its one pair, numbers that stand for others, and the word that comes of it.
pub mod Pair
pub mod Jams
pub mod NearWhole
pub mod Signs
pub mod Values
