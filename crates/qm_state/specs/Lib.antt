pub mod Accepting
pub mod Settling
