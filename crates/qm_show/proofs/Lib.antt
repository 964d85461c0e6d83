pub mod Listed
pub mod Blanks
pub mod TurnLines
