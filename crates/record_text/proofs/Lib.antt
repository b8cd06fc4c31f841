-- Laws of records in words: how they are told, how lines are read, and that both fit; the trace.
pub mod Tests
pub mod Same
pub mod Tables
pub mod Telling
pub mod Parting
pub mod Naming
pub mod Valuing
pub mod Taking
pub mod ReadBack
pub mod Tracing
