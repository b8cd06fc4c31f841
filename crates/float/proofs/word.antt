-- Which words are proper.
pub mod Proper
