-- The laws of the terms.
pub mod Arms
pub mod Numbers
