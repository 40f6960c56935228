pub mod Desk
pub mod HandingBack
