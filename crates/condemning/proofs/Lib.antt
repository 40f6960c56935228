pub mod Marking
pub mod Chains
pub mod Knowing
pub mod WhileHidden
pub mod Sparing
pub mod Trying
pub mod Finding
pub mod Chained
