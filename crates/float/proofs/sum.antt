-- FADD and FSUB: the addends, and their sum as the program forms it.
pub mod SumStands
pub mod SumCut
