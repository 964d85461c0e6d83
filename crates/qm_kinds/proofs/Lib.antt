pub mod Ascii
pub mod Reading
pub mod MatchTable
pub mod Packing
pub mod RequestNumbers
