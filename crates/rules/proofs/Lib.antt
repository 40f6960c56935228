-- Document 01's samples and table cases, worked out from the definitions. The theorems about the definitions stand in crate theorems.
-- Assumes nothing.
pub mod AllSamples
pub mod Instances
