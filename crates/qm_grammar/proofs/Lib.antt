pub mod FewValues
pub mod VerbLemmas
