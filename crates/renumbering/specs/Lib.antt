pub mod Outcome
pub mod Bytes
pub mod Parts
