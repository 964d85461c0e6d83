pub mod Keys
pub mod Suiting
