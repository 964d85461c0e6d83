pub mod Functions
pub mod Values
pub mod Looking
pub mod Asked
pub mod ItemText
pub mod ItemFaults
pub mod ItemHeads
