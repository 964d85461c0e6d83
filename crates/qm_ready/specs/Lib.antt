pub mod Rows
pub mod Kept
pub mod Jobs
pub mod Tiers
pub mod Moving
