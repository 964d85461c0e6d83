pub mod Bounds
pub mod Starts
pub mod Ready
pub mod Committed
pub mod Asking
