pub mod Links
pub mod Walks
pub mod Places
pub mod Trails
pub mod Inserts
pub mod Cuts
