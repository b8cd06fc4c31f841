-- The shift's figures: each from the list of sheets, the sum as text, what the call writes, the sums of magnitudes.
pub mod Figures
pub mod Digits
pub mod Telling
pub mod Limbs
