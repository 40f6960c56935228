-- Checks: what the checks accept, and that the paper's answers are told apart. Assumes nothing.
pub mod Cutting
pub mod Accept
pub mod Paper
