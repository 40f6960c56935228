pub mod Unrolling
pub mod Stepping
pub mod Rounding
pub mod Lowest
pub mod Coming
pub mod Same
