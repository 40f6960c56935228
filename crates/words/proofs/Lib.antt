-- Laws of numbers as bytes: how many, each way and back, written to the front of a list. Assumes nothing.
pub mod Counting
pub mod Behind
pub mod Numbers
pub mod Storing
