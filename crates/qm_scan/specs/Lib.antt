pub mod Listed
pub mod Scanning
