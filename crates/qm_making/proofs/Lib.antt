pub mod Entries
pub mod Kept
pub mod Ended
pub mod Lost
pub mod Stopped
pub mod Filling
