-- FMUL and FDIV, as the program forms them.
pub mod ProductCut
