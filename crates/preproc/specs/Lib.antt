pub mod Standing
pub mod Stopping
