pub mod Stops
pub mod Undo
pub mod Forward
