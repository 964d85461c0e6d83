-- What the cases ask of the readers.
pub mod Lists
