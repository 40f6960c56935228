-- Results: what is kept of a state, and the compact problem made of it. Assumes nothing.
pub mod Kept
pub mod Numbers
pub mod Compact
