pub mod Boxed
pub mod Put
pub mod Named
pub mod Found
pub mod Behind
pub mod Anything
pub mod AtHome
