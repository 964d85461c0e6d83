pub mod Digits
pub mod Dates
pub mod Numbers
pub mod Clocks
pub mod Months
pub mod Times
pub mod Moments
pub mod Laws
