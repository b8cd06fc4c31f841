-- SQRT: whole roots, the means that find them, and the cut of a root.
pub mod WholeRoot
pub mod Means
pub mod RootCut
