pub mod Finding
pub mod Places
pub mod Steps
pub mod Reading
pub mod Parts
pub mod Parsed
