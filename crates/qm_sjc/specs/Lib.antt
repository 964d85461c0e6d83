pub mod Fields
pub mod Judging
pub mod Calls
pub mod Rows
pub mod Meant
pub mod Printed
