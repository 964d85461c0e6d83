pub mod SpellingLemmas
pub mod RuleLemmas
pub mod NameLemmas
pub mod TokenFollowing
pub mod TokenOrder
