pub mod Leaving
pub mod Losing
