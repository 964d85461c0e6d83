pub mod ProperNodes
pub mod NewSites
pub mod FirstRows
pub mod Beginning
pub mod Leading
pub mod Going
pub mod Consistent
pub mod Next
