pub mod Hiding
pub mod Away
