pub mod Acts
pub mod Logs
pub mod Spelled
pub mod Rows
pub mod Worlds
