pub mod Readers
pub mod Products
pub mod Fields
pub mod Numbers
pub mod Names
pub mod Texts
