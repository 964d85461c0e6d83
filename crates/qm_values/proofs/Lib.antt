pub mod ItemTexts
pub mod ItemWalk
