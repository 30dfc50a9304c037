pub mod Places
pub mod Climbs
pub mod Fields
pub mod Links
pub mod Reaches
pub mod Stores
pub mod Pairs
