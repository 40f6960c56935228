pub mod Marks
pub mod Checkable
pub mod Lent
pub mod Made
