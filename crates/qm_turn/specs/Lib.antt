pub mod History
pub mod Turns
pub mod Rule
pub mod Each
