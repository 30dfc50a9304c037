pub mod Attempts
pub mod Places
pub mod Slots
pub mod Fillings
pub mod Searches
