pub mod Cases
pub mod JudgingLemmas
pub mod ListsRead
pub mod EachAsked
