-- Settled: how the rounds end, within which number of them, and what settled means. Assumes nothing.
pub mod LastRound
pub mod Measure
pub mod Flag
pub mod InTime
pub mod NothingLeft
pub mod Image
pub mod CompactImage
pub mod Idle
pub mod Repeat
pub mod Means
