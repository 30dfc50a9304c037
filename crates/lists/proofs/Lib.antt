pub mod Takes
pub mod Storable
pub mod Keeps
pub mod Collects
