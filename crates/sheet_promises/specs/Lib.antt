-- The book of module sheets and of the shift's figures: what each call answers, and the text of `./sheets`. Each
-- statement is proved under one name in proofs/.
pub mod Subjects
pub mod Bytes
pub mod Sheets
pub mod Records
pub mod Runs
pub mod SheetsCall
pub mod History
pub mod PowerCut
pub mod StruckOut
pub mod OwnWords
pub mod Files
pub mod Figures
pub mod Rows
pub mod FigureRows
pub mod Text
pub mod TextRows
pub mod WrongLibraries
