pub mod Duties
pub mod Viewing
