pub mod Filled
pub mod Kept
pub mod Left
pub mod Writing
pub mod Writer
pub mod Reading
