pub mod Visiting
pub mod Changing
pub mod Stepping
