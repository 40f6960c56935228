pub mod Marks
pub mod Condemning
