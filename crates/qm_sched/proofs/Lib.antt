pub mod FewStarts
pub mod Chosen
pub mod Steps
pub mod Walk
pub mod Starting
pub mod Progress
pub mod ByPlace
pub mod FirstReady
