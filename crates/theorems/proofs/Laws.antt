-- Laws: other ways to the same answers, by which a program may find them. Assumes nothing.
pub mod Walk
pub mod Hiding
pub mod Held
pub mod Counters
pub mod AnyOrder
