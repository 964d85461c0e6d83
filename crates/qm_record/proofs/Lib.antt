pub mod Codes
pub mod Numbers
pub mod Fields
pub mod Bodies
pub mod Records
pub mod Loops
pub mod There
