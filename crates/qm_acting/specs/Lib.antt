pub mod Standing
pub mod Asking
pub mod Deciding
pub mod Reading
pub mod Files
pub mod Taking
pub mod Spare
pub mod Leaving
