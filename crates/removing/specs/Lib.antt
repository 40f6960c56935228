pub mod Deleting
pub mod Removing
