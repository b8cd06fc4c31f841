-- Laws of the text.
pub mod Telling
pub mod Asking
pub mod Examples
