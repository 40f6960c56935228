-- Words: laws of tests, lists and numbers, which know nothing of options. Assumes nothing.
pub mod Tests
pub mod Lists
pub mod Counts
pub mod Choices
pub mod Greatest
pub mod Order
pub mod Distinct
pub mod Rising
pub mod Places
pub mod Written
