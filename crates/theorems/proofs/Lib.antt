-- The proofs, a folder a layer, each standing only on layers above it in this list. Assumes nothing.
pub mod Words
pub mod Steps
pub mod Results
pub mod Covers
pub mod Settled
pub mod Checks
pub mod Laws
pub mod Answers
