pub mod Settings
pub mod Reasons
pub mod Ending
pub mod Naming
