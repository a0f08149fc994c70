pub mod DatedPlaces
pub mod Dates
pub mod Increments
pub mod Agreement
