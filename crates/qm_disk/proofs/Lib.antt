pub mod BytesLemmas
pub mod Walks
pub mod Later
pub mod Moments
pub mod Noted
pub mod Picked
