pub mod Running
pub mod Reporting
pub mod Concluding
