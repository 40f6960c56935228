-- The laws that the proofs of the functions cite, over plain lists; and `Grow`, for callers whose figures are smaller than the paper's.
-- Assumes nothing.
pub mod EndByEnd
pub mod EntryByEntry
pub mod OptionByOption
pub mod Table
pub mod Grow
pub mod Telling
