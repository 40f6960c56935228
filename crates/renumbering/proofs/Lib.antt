-- Laws of the renumberings over plain lists of numbers, cited by the functions over lists and over byte lists alike. Assumes nothing.
pub mod Climbing
pub mod Halving
pub mod Missing
pub mod Shifting
pub mod Refusing
pub mod Writing
pub mod Calls
pub mod AsNumbers
pub mod Places
pub mod OneOutcome
