pub mod Choosing
pub mod Starts
pub mod Settled
pub use Rattle.qm_parts.specs.Tables
