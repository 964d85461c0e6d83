pub mod Records
pub mod Moments
pub mod Cut
pub mod Bodies
pub mod Found
pub mod Log
pub mod Appending
pub mod Opened
