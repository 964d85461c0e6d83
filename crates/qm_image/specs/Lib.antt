pub mod Timers
pub mod Losing
pub mod Refusing
pub mod Image
pub mod Preparing
pub mod Deciding
pub mod Restoring
