pub mod Values
pub mod Times
pub mod Queues
pub mod Jobs
pub mod Forms
pub mod Listings
pub mod Commands
