pub mod Short
pub mod Following
pub mod Judging
pub mod Decided
pub mod Spare
pub mod Leaving
pub mod Taken
