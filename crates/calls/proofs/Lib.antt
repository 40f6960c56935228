-- The call over lists: what its two ways out come to, and that there is no second outcome. Assumes nothing.
pub mod Refusing
pub mod OneOutcome
