pub mod Leasts
pub mod Positions
pub mod Puts
pub mod Scans
