pub mod Keeping
pub mod Replying
