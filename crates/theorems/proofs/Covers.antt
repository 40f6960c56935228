-- Covers: the covers of a problem are those of its result, and of the compact problem. Assumes nothing.
pub mod State
pub mod Without
pub mod Spared
pub mod Start
pub mod Result
pub mod Same
pub mod Places
pub mod Alike
pub mod CompactNames
pub mod Compact
