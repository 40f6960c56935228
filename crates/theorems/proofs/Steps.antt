-- Steps: what holds of options and states, of an item's step, of the rounds, and of the start. Assumes nothing.
pub mod States
pub mod LiveOptions
pub mod LeftOut
pub mod Redundancy
pub mod Blocking
pub mod ItemStep
pub mod Start
pub mod Preserve
pub mod Soundness
pub mod CauseThree
