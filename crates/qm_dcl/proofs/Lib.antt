pub mod Digits
pub mod FewValues
pub mod ShortNames
pub mod EachAsked
pub mod FirstFault
pub mod Managers
