-- What is true of float words beyond what the chip's own proofs need: the pair m, e, what each operation gives, the order, the theorem of Sterbenz.
pub mod OnePair
pub mod NearPair
pub mod RulePair
pub mod NoNearer
pub mod Kept
pub mod Order
pub mod Steps
pub mod Moved
pub mod Conversions
pub mod SignChange
pub mod NearRoot
pub mod RootExact
pub mod Close
