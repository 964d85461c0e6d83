pub mod Pairs
pub mod Orders
pub mod Searches
pub mod Rows
pub mod Inserted
pub mod Mapped
pub mod Keys
