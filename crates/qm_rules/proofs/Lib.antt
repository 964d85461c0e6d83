pub mod Given
pub mod Refusing
pub mod Boxed
pub mod Gathered
