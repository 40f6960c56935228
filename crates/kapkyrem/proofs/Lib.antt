-- The calls from C: how an answer is packed, and that no field overflows. Assumes nothing.
pub mod Fields
pub mod Fitting
pub mod Telling
pub mod Packing
pub mod OneOutcome
