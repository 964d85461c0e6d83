pub mod Site
pub mod QueueFile
pub mod Restoring
