-- The desk's call: its steps over plain lists. Assumes nothing.
pub mod OwnRoom
pub mod Thinning
pub mod NeverSeventeen
pub mod Reading
pub mod OneOutcome
pub mod AsNumbers
