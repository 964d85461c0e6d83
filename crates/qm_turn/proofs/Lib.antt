pub mod Counts
pub mod Histories
pub mod Facts
pub mod Drawing
pub mod Looking
pub mod Passing
pub mod Telling
pub mod Hearing
pub mod Splitting
pub mod Joining
pub mod Closing
pub mod Gathering
mod Halves
