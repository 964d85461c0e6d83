pub mod Added
pub mod Adding
pub mod Cut
pub mod Heads
pub mod Made
pub mod OneWrite
pub mod Walk
pub mod Texts
