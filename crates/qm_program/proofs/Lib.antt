pub mod Asking
pub mod Completing
pub mod Counting
pub mod Leaving
pub mod Listing
pub mod NewSite
pub mod Reasons
pub mod Surviving
