pub mod ConflictPlaces
