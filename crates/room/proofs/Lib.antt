pub mod Remade
pub mod Clearing
