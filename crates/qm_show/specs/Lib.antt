pub mod ActWords
pub mod Behind
pub mod Columns
pub mod Prefix
pub mod Refusals
pub mod Turns
