pub mod Call
pub mod Report
